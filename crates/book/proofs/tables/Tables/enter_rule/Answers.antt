use Rattle.std.proofs.Common.{◌≡◌, ◌++◌, ◌∷◌, [], take, Some, refl, ◌∙◌, ap, inl, inr, arith}
use Rattle.std.proofs.lemmas.Bool.{iff_false}
use Rattle.book.specs.Faults.{number_of, offset_of}
use Rattle.book.specs.Tables.{RuleRefused}
use Rattle.book.specs.Views.{meant}
use Rattle.book.proofs.Matching.{match_ok_or}
use Rattle.book.proofs.Entering.{sides_before, sides_after, rule_push}
use Rattle.book.proofs.tables.Tables.enter_rule.Goals as goal

pub returns-then-not-has_sides : goal.returns-then-not-has_sides
returns-then-not-has_sides c = record {
  bytes = refl;
  answer = λ before n t. (
    refl,
    inl ((λ s. iff_false c.has_sides.ensures c.if-not-has_sides.true (sides_after _ before n.laid n.told (meant c.args.field.now) s)), refl),
  );
}

pub returns : goal.returns
returns c = record {
  bytes = refl;
  answer = λ before n t.
      let f = meant c.args.field.now in
      let sides = sides_before _ before n.laid n.told f (c.has_sides.ensures.0 c.if-not-has_sides.false) in
      rw c.ok_or.ensures.value
      (match_ok_or (λ e. (offset_of e ≡ Some c.args.field.now.offset) × RuleRefused before f (number_of e)) c.push.result _
      (λ full. (refl, inr (sides, (λ room. omega (arith, n.told.count_is, full.0)), refl)))
      (λ pushed. (
        sides,
        omega (arith, pushed.0, n.told.count_is),
        rule_push _ before n.told f _ t refl refl pushed.1 (pushed.2 ∙ ap (λ p. take c.args.self.now.rules.count c.args.self.now.rules.entries ++ p ∷ []) n.offset),
      ))
      c.push.ensures);
}
