use Rattle.std.specs.Option.{ok_or}
use Rattle.std.proofs.lemmas.Option.{MatchOption-at_some, MatchOption-at_none}
use Rattle.book.specs.Meaning.{signature_of, rules_of}
use Rattle.stepping.specs.declared.outcome.RewriteFault.TheVariants as fault
use Rattle.stepping.specs.Stepping.{RewriteAnswer}
use Rattle.stepping.specs.Subjects.{signature_on, rules_on}
use Rattle.stepping.proofs.Results.{along, refused, no_match_answer, can_write, step_written}
use Rattle.stepping.proofs.step.rewrite_at.Goals as goal

pub returns-in_err-matched : goal.returns-in_err-matched
returns-in_err-matched c =
    let s = c.in_ok-subject.subject in
    let is = MatchOption-at_some _ _ s c.in_ok-subject.ensures.ok_part c.new.ensures in
    along (λ b v w. RewriteAnswer (signature_of b) v (rules_of b) w c.args.rule c.args.place c.args.page.now c.args.page.now c.from_residual-in_err-matched.result) is
    (refused (RewriteAnswer (signature_on s) s.variables (rules_on s) s.term.now c.args.rule c.args.place c.args.page.now c.args.page.now) c.match_at.result fault.NoMatch _ c.from_residual-in_err-matched.result c.in_err-matched.ensures.value c.in_err-matched.ensures.ok_part c.from_residual-in_err-matched.ensures.1
    (no_match_answer s c.args.rule c.args.place (MatchOption-at_none _ _ c.in_err-matched.ensures.ok_part c.match_at.ensures) c.args.page.now))

pub write_replaced-requires : goal.write_replaced-requires
write_replaced-requires c =
    can_write c.in_ok-subject.subject c.args.rule c.args.place c.in_ok-matched.matched (MatchOption-at_some _ _ c.in_ok-matched.matched c.in_ok-matched.ensures.ok_part c.match_at.ensures)

pub returns : goal.returns
returns c =
    let s = c.in_ok-subject.subject in
    let is = MatchOption-at_some _ _ s c.in_ok-subject.ensures.ok_part c.new.ensures in
    let by = MatchOption-at_some _ _ c.in_ok-matched.matched c.in_ok-matched.ensures.ok_part c.match_at.ensures in
    rw c.ok_or-3.ensures.value
    (along (λ b v w. RewriteAnswer (signature_of b) v (rules_of b) w c.args.rule c.args.place c.args.page.now c.write_replaced.new.page (ok_or c.write_replaced.result fault.NoRoom)) is
    (step_written s c.args.rule c.args.place c.in_ok-matched.matched by c.args.page.now c.write_replaced.new.page c.write_replaced.result c.write_replaced.ensures))
