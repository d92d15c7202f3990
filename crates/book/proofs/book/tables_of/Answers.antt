use Rattle.std.proofs.Common.{ℕ, ◌<◌, get_or, ap, ◌∙◌, subst, arith}
use Rattle.std.proofs.lemmas.Result.{err_from_is_err_and}
use Rattle.book.specs.Questions.{NotRead}
use Rattle.book.specs.Views.{meant}
use Rattle.book.proofs.ReaderAnswers.{field_came, end_came}
use Rattle.book.proofs.Progress.{inside, few_symbols, laid_here, progress_more, progress_end, refused_cut, refused_field}
use Rattle.book.proofs.book.tables_of.Goals as goal

pub returns-in_err-field : goal.returns-in_err-field
returns-in_err-field c =
    let p = err_from_is_err_and c.from_residual.result c.from_residual.ensures.1 in
    let e = c.in_err-field.field-0.0 in
    let r = subst (λ w. NotRead w c.loop-field.reader.at e c.next.new.self.at) c.loop-field.invariant.0 c.in_err-field.ensures.answer in
    rw (p.1, p.2) (refused_cut _ _ _ c.loop-field.invariant.1 e _ r)

pub enter-requires : goal.enter-requires
enter-requires c =
    let p = c.loop-field.invariant.1 in
    let r = field_came c.args.bytes.now c.loop-field.reader.bytes.now c.loop-field.invariant.0 _ _ c.in_ok-field.field-0 c.in_ok-field.ensures.answer c.in-Some.field c.in-Some.is in
    record { inside = omega (arith, r.offset_is, inside _ _ _ p); few = few_symbols _ _ _ p }

pub loop-field-preserved : goal.loop-field-preserved
loop-field-preserved c =
    let p = c.loop-field.invariant.1 in
    let r = field_came c.args.bytes.now c.loop-field.reader.bytes.now c.loop-field.invariant.0 _ _ c.in_ok-field.field-0 c.in_ok-field.ensures.answer c.in-Some.field c.in-Some.is in
    let small : (i : ℕ) → get_or c.args.bytes.now i 0 < 256 = λ i. omega (arith, c.type_inv.bytes i) in
    let entered = c.in_ok-enter.ensures.answer p.before (record { laid = laid_here _ _ _ p; told = p.tables; offset = r.offset_is ∙ p.reached }) in (
      c.next.ensures.bytes ∙ c.loop-field.invariant.0,
      progress_more _ _ _ p small c.in-Some.field.offset (meant c.in-Some.field) c.next.new.self.at r entered.0 c.enter.new.self entered.1 (ap (λ b. b.now) c.enter.ensures.bytes ∙ p.bytes_are),
    )

pub returns-in_err-enter : goal.returns-in_err-enter
returns-in_err-enter c =
    let p = c.loop-field.invariant.1 in
    let r = field_came c.args.bytes.now c.loop-field.reader.bytes.now c.loop-field.invariant.0 _ _ c.in_ok-field.field-0 c.in_ok-field.ensures.answer c.in-Some.field c.in-Some.is in
    let e = c.in_err-enter.field-0.0 in
    let refused = c.in_err-enter.ensures.answer p.before (record { laid = laid_here _ _ _ p; told = p.tables; offset = r.offset_is ∙ p.reached }) in
    let q = err_from_is_err_and c.from_residual-in_err-enter.result c.from_residual-in_err-enter.ensures.1 in
    rw (q.1, q.2) (refused_field _ _ _ p c.in-Some.field.offset (meant c.in-Some.field) c.next.new.self.at e r refused.0 refused.1)

pub returns : goal.returns
returns c =
    let p = c.loop-field.invariant.1 in
    let e = end_came c.args.bytes.now c.loop-field.reader.bytes.now c.loop-field.invariant.0 _ _ c.in_ok-field.field-0 c.in_ok-field.ensures.answer c.in_default.is in
    let done = progress_end _ _ _ p _ e in
    (p.bytes_are, done.0, done.1)
