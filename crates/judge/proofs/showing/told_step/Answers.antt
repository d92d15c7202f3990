use Rattle.std.proofs.Common.{ℕ, ◌≡◌, ◌≤◌, ◌<◌, List, length, take, sym, ◌∙◌, Some, None, Option, Ok, MatchOption, arith}
use Rattle.std.specs.Option.{ok_or}
use Rattle.std.proofs.lemmas.List.{length-take, length-take-le}
use Rattle.std.proofs.lemmas.Result.{err_from_is_err_and}
use Rattle.terms.specs.Term.{Term, Rule}
use Rattle.terms.specs.Prefix.{Arities}
use Rattle.unification.specs.declared.written.Codes.{Codes}
use Rattle.unification.specs.Written.{bytes_of}
use Rattle.stepping.specs.declared.outcome.RewriteFault.TheVariants.{NoRoom}
use Rattle.book.specs.Meaning.{signature_of, rules_of}
use Rattle.judge.specs.Showing.{ToldStep}
use Rattle.judge.proofs.ToldSteps.{step_is_done, step_fails}
use Rattle.judge.proofs.showing.told_step.Goals as goal

pub returns-in_err-n : goal.returns-in_err-n
returns-in_err-n c t reads =
    let bs = c.args.book.now.tables.bytes.now in
    let p = err_from_is_err_and c.from_residual.result c.from_residual.ensures.1 in
    rw (p.1, p.2)
    (step_fails (signature_of bs) (rules_of bs) c.as_slice.result.now c.args.rule c.args.place (take 255 c.args.page.now) c.rewrite_at.new.page (length-take-le 255 c.args.page.now (omega (arith, c.told-page))) t (record { sorted = reads.sorted; form = reads.form ∙ sym c.as_slice.ensures }) c.in_err-n.field-0.0 c.in_err-n.ensures)

few : (n : ℕ) (xs : List ℕ) → n ≤ 255 → length (take n xs) ≤ 255
few n xs h = omega (arith, length-take n xs)

-- few enough bytes are written
written : (sig : Arities) (rs : List Rule) (k p : ℕ) (t : Term) (bytes : List ℕ) (o : Option (Codes 255)) → length bytes ≤ 255 → ((w : Codes 255) → bytes_of w ≡ bytes → ToldStep sig rs k p t (Ok w))
    → MatchOption o (255 < length bytes) (λ w. (length bytes ≤ 255) × (bytes_of w ≡ bytes)) → ToldStep sig rs k p t (ok_or o NoRoom)
written sig rs k p t bytes None few f m = absurd (omega (arith, few, m))
written sig rs k p t bytes (Some w) few f m = f w m.1

pub returns : goal.returns
returns c t reads =
    let bs = c.args.book.now.tables.bytes.now in
    rw c.ok_or.ensures.value
    (written (signature_of bs) (rules_of bs) c.args.rule c.args.place t _ c.of.result (few c.in_ok-n.n _ (omega (arith, c.in_ok-n.ensures.4, length-take-le 255 c.args.page.now (omega (arith, c.told-page)))))
    (λ w e. step_is_done (signature_of bs) (rules_of bs) c.as_slice.result.now c.args.rule c.args.place (take 255 c.args.page.now) c.rewrite_at.new.page (length-take-le 255 c.args.page.now (omega (arith, c.told-page))) t (record { sorted = reads.sorted; form = reads.form ∙ sym c.as_slice.ensures }) c.in_ok-n.n _ w c.in_ok-n.ensures e)
    c.of.ensures)
