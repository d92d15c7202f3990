use Rattle.std.proofs.Common.{◌∙◌, subst, arith}
use Rattle.book.specs.Questions.{FieldRead, AtEnd, NotRead}
use Rattle.book.specs.Views.{meant}
use Rattle.book.proofs.Held.{held_count}
use Rattle.book.proofs.ReaderAnswers.{ok_field, ok_end, ok_cut}
use Rattle.book.proofs.RuleSides.{rule_inside, rule_not_end, rule_not_cut, sides_held}
use Rattle.book.proofs.book.Book.sides.Goals as goal

pub at_place-reader-requires : goal.at_place-reader-requires
at_place-reader-requires c =
    let b = c.args.self.now in
    let listed = c.in_ok-place.ensures in
    omega (arith, listed.1, rule_inside b.tables c.args.i listed.0 b.holds)

pub returns-in_err-place : goal.returns-in_err-place
returns-in_err-place c =
    let b = c.args.self.now in
    rw c.from_residual.ensures (omega (arith, c.in_err-place.ensures, held_count b.tables b.holds))

pub returns-in_err-ok : goal.returns-in_err-ok
returns-in_err-ok c =
    let b = c.args.self.now in
    let listed = c.in_ok-place.ensures in
    let made = c.at_place-reader.ensures in
    let cut = ok_cut b.tables.bytes.now _ made.0 _ _ _ c.next.ensures.answer _ c.ok.ensures.value c.in_err-ok.was in
    absurd (rule_not_cut b.tables c.args.i listed.0 b.holds cut.0 _ (subst (λ p. NotRead b.tables.bytes.now p cut.0 c.next.new.self.at) (made.1 ∙ listed.1) cut.1))

pub returns-in_err-field : goal.returns-in_err-field
returns-in_err-field c =
    let b = c.args.self.now in
    let listed = c.in_ok-place.ensures in
    let made = c.at_place-reader.ensures in
    let end = ok_end b.tables.bytes.now _ made.0 _ _ _ c.next.ensures.answer _ c.ok.ensures.value _ c.in_ok-ok.was c.in_err-field.was in
    absurd (rule_not_end b.tables c.args.i listed.0 b.holds _ (subst (λ p. AtEnd b.tables.bytes.now p c.next.new.self.at) (made.1 ∙ listed.1) end))

pub returns : goal.returns
returns c =
    let b = c.args.self.now in
    let listed = c.in_ok-place.ensures in
    let made = c.at_place-reader.ensures in
    let f = c.in_ok-field.field in
    let came = ok_field b.tables.bytes.now _ made.0 _ _ _ c.next.ensures.answer _ c.ok.ensures.value _ f c.in_ok-ok.was c.in_ok-field.was in
    let read = subst (λ p. FieldRead b.tables.bytes.now p f.offset (meant f) c.next.new.self.at) (made.1 ∙ listed.1) came in
    sides_held b.tables c.args.i listed.0 b.holds f.offset (meant f) c.next.new.self.at read c.sides.result c.sides.ensures
