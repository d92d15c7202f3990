use Rattle.std.proofs.Common.{length, drop, Some, sym, ap, ◌∙◌, subst, arith}
use Rattle.book.specs.Format.{Row}
use Rattle.book.specs.Views.{meant}
use Rattle.book.proofs.ReaderAnswers.{ok_field, ok_end, ok_cut}
use Rattle.book.proofs.Walking.{row_kept, row_not_cut, found_next, passed_over, none_left, goes_on}
use Rattle.book.proofs.fields.FieldsIterator.next.Goals as goal

pub invariant_of-self : goal.invariant_of-self
invariant_of-self c =
    let bs = c.loop-field.self.reader.bytes.now in
    let then = c.next.new.self.at in
    record { row = subst (λ w. Row (drop then w)) (sym c.next.ensures.bytes) (row_kept bs c.loop-field.self.reader.at c.loop-field.self.row c.next.result then c.next.ensures.answer) }

pub returns-in_err-field-clause-steps : goal.returns-in_err-field-clause-steps
returns-in_err-field-clause-steps c =
    let bs = c.args.self.now.reader.bytes.now in
    let at = c.loop-field.self.reader.at in
    let same = c.loop-field.invariant.0 in
    let row = subst (λ w. Row (drop at w)) same c.loop-field.self.row in
    let cut = ok_cut bs _ same _ _ _ c.next.ensures.answer _ c.ok.ensures.value c.in_err-field.was in
    absurd (row_not_cut bs at row cut.0 _ cut.1)

pub returns-then-field-self-clause-steps : goal.returns-then-field-self-clause-steps
returns-then-field-self-clause-steps c =
    let bs = c.args.self.now.reader.bytes.now in
    let at = c.loop-field.self.reader.at in
    let same = c.loop-field.invariant.0 in
    let row = subst (λ w. Row (drop at w)) same c.loop-field.self.row in
    let f = c.in-Some.field in
    let came = ok_field bs _ same _ _ _ c.next.ensures.answer _ c.ok.ensures.value _ f c.in_ok-field.was c.in-Some.is in
    record {
      bytes = c.next.ensures.bytes ∙ same;
      tag = c.loop-field.invariant.1;
      answer = c.loop-field.invariant.2 ∙ found_next bs at row f.offset (meant f) _ came c.args.self.now.tag (c.if-field-self.true ∙ c.loop-field.invariant.1);
    }

pub returns-then-field-self-clause-goes : goal.returns-then-field-self-clause-goes
returns-then-field-self-clause-goes c = goes_on _ (λ _. tt) c.args.self.now _ (Some c.in-Some.field) (returns-then-field-self-clause-steps c)

pub loop-field-preserved : goal.loop-field-preserved
loop-field-preserved c =
    let bs = c.args.self.now.reader.bytes.now in
    let at = c.loop-field.self.reader.at in
    let same = c.loop-field.invariant.0 in
    let row = subst (λ w. Row (drop at w)) same c.loop-field.self.row in
    let f = c.in-Some.field in
    let came = ok_field bs _ same _ _ _ c.next.ensures.answer _ c.ok.ensures.value _ f c.in_ok-field.was c.in-Some.is in (
      c.next.ensures.bytes ∙ same,
      c.loop-field.invariant.1,
      c.loop-field.invariant.2 ∙ passed_over bs at row f.offset (meant f) _ came c.args.self.now.tag (λ e. c.if-field-self.false (e ∙ sym c.loop-field.invariant.1)),
    )

pub returns-clause-steps : goal.returns-clause-steps
returns-clause-steps c =
    let bs = c.args.self.now.reader.bytes.now in
    let at = c.loop-field.self.reader.at in
    let same = c.loop-field.invariant.0 in
    let row = subst (λ w. Row (drop at w)) same c.loop-field.self.row in
    let came = ok_end bs _ same _ _ _ c.next.ensures.answer _ c.ok.ensures.value _ c.in_ok-field.was c.in_default.is in
    let none = none_left bs at row _ (omega (arith, ap length same)) came c.args.self.now.tag in
    record { bytes = c.next.ensures.bytes ∙ same; tag = c.loop-field.invariant.1; answer = (c.loop-field.invariant.2 ∙ none.0, none.1) }
