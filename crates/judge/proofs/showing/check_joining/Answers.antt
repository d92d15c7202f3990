use Rattle.std.proofs.Common.{true, false, sym, refl, ◌∙◌, true≢false}
use Rattle.std.proofs.lemmas.Slice.Eq.{slice_eq-Decides}
use Rattle.std.proofs.lemmas.Bool.Decides.{Decides-eqb}
use Rattle.std.proofs.lemmas.Result.{err_from_is_err_and}
use Rattle.std.specs.List.{concat}
use Rattle.book.specs.Meaning.{signature_of, rules_of}
use Rattle.judge.proofs.ToldSteps.{outer_fails, inner_fails, ends_meet, ends_apart}
use Rattle.judge.proofs.showing.check_joining.Goals as goal

pub returns-in_err-outer_end : goal.returns-in_err-outer_end
returns-in_err-outer_end c a b ra rb =
    let bs = c.args.book.now.tables.bytes.now in
    let e = c.in_err-outer_end.field-0.0 in
    let p = err_from_is_err_and c.from_residual.result c.from_residual.ensures.1 in
    rw (p.1, p.2)
    (outer_fails (rules_of bs) (concat c.args.joining.now.outer.now) (concat c.args.joining.now.inner.now) a b e (c.in_err-outer_end.ensures a ra))

pub returns-in_err-inner_end : goal.returns-in_err-inner_end
returns-in_err-inner_end c a b ra rb =
    let bs = c.args.book.now.tables.bytes.now in
    let one = c.in_ok-outer_end.ensures a ra in
    let e = c.in_err-inner_end.field-0.0 in
    let p = err_from_is_err_and c.from_residual-in_err-inner_end.result c.from_residual-in_err-inner_end.ensures.1 in
    rw (p.1, p.2)
    (inner_fails (rules_of bs) (concat c.args.joining.now.outer.now) (concat c.args.joining.now.inner.now) a b one.0 one.1 e (c.in_err-inner_end.ensures b rb))

pub returns-then-eq : goal.returns-then-eq
returns-then-eq c a b ra rb =
    let bs = c.args.book.now.tables.bytes.now in
    ends_meet (rules_of bs) (concat c.args.joining.now.outer.now) (concat c.args.joining.now.inner.now) a b (signature_of bs) c.in_ok-outer_end.outer_end c.in_ok-inner_end.inner_end
    (c.in_ok-outer_end.ensures a ra) (c.in_ok-inner_end.ensures b rb)
    (sym c.as_slice.ensures ∙ (slice_eq-Decides Decides-eqb _ _ true c.if-eq.ensures).0 refl ∙ c.as_slice-2.ensures)

pub returns-else-eq : goal.returns-else-eq
returns-else-eq c a b ra rb =
    let bs = c.args.book.now.tables.bytes.now in
    ends_apart (rules_of bs) (concat c.args.joining.now.outer.now) (concat c.args.joining.now.inner.now) a b (signature_of bs) c.in_ok-outer_end.outer_end c.in_ok-inner_end.inner_end
    (c.in_ok-outer_end.ensures a ra) (c.in_ok-inner_end.ensures b rb)
    (λ e. true≢false (sym ((slice_eq-Decides Decides-eqb _ _ false c.if-eq.ensures).1 (c.as_slice.ensures ∙ e ∙ sym c.as_slice-2.ensures))))
