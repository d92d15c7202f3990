use Rattle.std.proofs.Common.{◌≡◌, ◌≤◌, None, Option, Err, Result, length, sym, subst, arith, rules}
use Rattle.std.proofs.lemmas.Result.{err_from_is_err_and}
use Rattle.std.specs.Option.{ok_or}
use Rattle.unification.specs.declared.critical.NoPair.{NoPair}
use Rattle.unification.specs.declared.critical.NoPair.TheVariants.{Apart}
use Rattle.unification.proofs.Few.{few_codes}
use Rattle.unification.proofs.StandingFacts.{stands_below}
use Rattle.unification.proofs.Overlaps.{sides_forest, sides_ordered, second_stands, part_stands, sides_there, sides_as}
use Rattle.unification.proofs.critical.overlap.Goals as goal

pub ends-requires-clause-terms : goal.ends-requires-clause-terms
ends-requires-clause-terms g c = sides_forest _ _ _ _ _ _ _ (sides_as _ _ _ _ _ _ c.as_slice-codes.ensures c.requires.sides).2

pub invariant_of-forest : goal.invariant_of-forest
invariant_of-forest g c =
    let few = subst (λ xs. length xs ≤ 128) (sym c.as_slice-codes.ensures) (few_codes c.args.sides.now.codes) in
    record {
      laid = record {
        terms = sides_forest _ _ _ _ _ _ _ (sides_as _ _ _ _ _ _ c.as_slice-codes.ensures c.requires.sides).2;
        few = few;
        room = search rules;
        ends = c.ends.ensures;
      };
    }

pub unify-requires-clause-first : goal.unify-requires-clause-first
unify-requires-clause-first g c =
    let o = sides_ordered _ _ _ _ _ _ _ (sides_as _ _ _ _ _ _ c.as_slice-codes.ensures c.requires.sides).2 in
    omega (arith, o.0, c.requires.inside)

pub unify-requires-clause-second : goal.unify-requires-clause-second
unify-requires-clause-second g c = stands_below _ _ _ _ (second_stands _ _ _ _ _ _ _ (sides_as _ _ _ _ _ _ c.as_slice-codes.ensures c.requires.sides).2)

is_apart : {U : Type 0} (o : Option U) (e : NoPair) → o ≡ None → ◌≡◌ {A = Result U NoPair} (Err e) (ok_or o Apart) → e ≡ Apart
is_apart o e none value = cc

pub returns-in_err-unifier : goal.returns-in_err-unifier
returns-in_err-unifier g c = λ a b s.
    let h = c.in_err-unifier.ensures in
    let p = err_from_is_err_and c.from_residual.result c.from_residual.ensures.1 in
    let apart : c.in_err-unifier.field-0.0 ≡ Apart = is_apart c.unify.result c.in_err-unifier.field-0.0 h.ok_part h.value in
    let none = rw h.ok_part at c.unify.ensures in
    let there = sides_there _ _ _ _ _ _ a b c.as_slice-codes.ensures s in
    rw (p.1, p.2, apart)
    (none _ _ (part_stands _ _ _ _ _ a b there _ c.requires.inside) (second_stands _ _ _ _ _ a b there))

pub write_pair-requires-clause-sides : goal.write_pair-requires-clause-sides
write_pair-requires-clause-sides g c =
    let u = rw c.in_ok-unifier.ensures.ok_part at c.unify.ensures in
    rw u.0 (sides_as _ _ _ _ _ _ c.as_slice-codes.ensures c.requires.sides)
