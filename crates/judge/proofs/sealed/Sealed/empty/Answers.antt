use Rattle.std.proofs.Common.{[], sym, subst, arith}
use Rattle.rewriting.specs.Unify.{OverlapsJoin}
use Rattle.rewriting.proofs.Statements.{joined_overlaps_suffice}
use Rattle.book.specs.Meaning.{signature_of, rules_of}
use Rattle.judge.specs.Sealed.{Convergent}
use Rattle.judge.proofs.Falling.{nothing_terminates}
use Rattle.judge.proofs.sealed.Sealed.empty.Goals as goal

nothing_converges : Convergent (signature_of []) []
nothing_converges =
    let join : OverlapsJoin [] = λ i p j peak outer inner c. absurd (omega (arith, c.overlap.first_rule)) in
    record {
      rules = λ i h. absurd (omega (arith, h));
      proper = λ i h. absurd (omega (arith, h));
      terminating = nothing_terminates (signature_of []);
      confluent = joined_overlaps_suffice (signature_of []) 8 [] (λ i h. absurd (omega (arith, h))) (λ i h. absurd (omega (arith, h))) (nothing_terminates (signature_of [])) join;
    }

pub invariant_of-result : goal.invariant_of-result
invariant_of-result c = record { convergent = ∣ subst (λ bs. Convergent (signature_of bs) (rules_of bs)) (sym c.empty.ensures) nothing_converges ∣₁ }
