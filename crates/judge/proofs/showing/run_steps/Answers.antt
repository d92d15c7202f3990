use Rattle.std.proofs.Common.{rules}
use Rattle.std.proofs.lemmas.Result.{err_from_is_err_and}
use Rattle.book.specs.Meaning.{signature_of, rules_of}
use Rattle.judge.proofs.ToldSteps.{told_done, told_fails}
use Rattle.judge.proofs.showing.run_steps.Goals as goal

pub returns-in_err-term : goal.returns-in_err-term
returns-in_err-term c t reads =
    let bs = c.args.book.now.tables.bytes.now in
    let p = err_from_is_err_and c.from_residual.result c.from_residual.ensures.1 in
    rw (p.1, p.2)
    (told_fails (signature_of bs) (rules_of bs) c.args.steps.now c.loop-step.step-counter c.told-steps c.loop-step-test.true t c.loop-step.term (c.loop-step.invariant t reads) c.args.side c.map_err.result _
    c.told_step-answer.result c.in_err-term.field-0.0 (λ e f k. search rules) c.map_err.ensures.cases c.in_err-term.was c.told_step-answer.ensures)

pub loop-step-preserved : goal.loop-step-preserved
loop-step-preserved c t reads =
    let bs = c.args.book.now.tables.bytes.now in
    told_done (signature_of bs) (rules_of bs) c.args.steps.now c.loop-step.step-counter c.told-steps c.loop-step-test.true t c.loop-step.term (c.loop-step.invariant t reads) c.args.side c.map_err.result _
    c.told_step-answer.result c.in_ok-term.term c.map_err.ensures.cases c.in_ok-term.was c.told_step-answer.ensures
