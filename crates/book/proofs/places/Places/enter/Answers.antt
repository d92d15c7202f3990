use Rattle.std.proofs.Common.{◌<◌, length, arith, rules, inl, inr, refl, sym, ◌∙◌, eq-eqb, ne_eqb}
use Rattle.std.specs.Int.{w128}
use Rattle.std.proofs.lemmas.Bool.{cases_eq, lt-ltb}
use Rattle.std.proofs.lemmas.List.{get_or-set_same, get_or-set_other}
use Rattle.std.proofs.lemmas.Nat.Bits.{bit_at_set_same, bit_at_set_other}
use Rattle.book.proofs.places.Places.enter.Goals as goal

pub returns-clause-entered : goal.returns-clause-entered
returns-clause-entered c x =
    let k = c.args.code in
    let old = c.args.self.now in
    let small : k < 128 = omega (arith, c.if-code-ge-VARIABLE.false) in
    let inside : k < length old.by_code = search rules in
    elim (cases_eq x k) [
      | inl same ↦ rw (same, eq-eqb k k refl, lt-ltb k 128 small, bit_at_set_same w128 old.entered k small, get_or-set_same old.by_code k c.args.place 0 inside) refl
      | inr other ↦ rw (ne_eqb x k other, bit_at_set_other w128 old.entered k small x other, get_or-set_other old.by_code k x c.args.place 0 other) refl
    ]

pub invariant_of-self : goal.invariant_of-self
invariant_of-self c =
    let k = c.args.code in
    let old = c.args.self.now in
    let small : k < 128 = omega (arith, c.if-code-ge-VARIABLE.false) in
    record {
      free = λ x within none. elim (cases_eq x k) [
        | inl same ↦ let one = bit_at_set_same w128 old.entered k small in absurd (omega (arith, one, rw same at none))
        | inr other ↦ get_or-set_other old.by_code k x c.args.place 0 other ∙ old.free x within (sym (bit_at_set_other w128 old.entered k small x other) ∙ none)
      ];
    }
