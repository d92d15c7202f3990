use Rattle.std.proofs.Common.{◌≡◌, ◌*◌, ◌/◌, length, sym, ap, ◌∙◌, arith}
use Rattle.std.proofs.lemmas.Bool.Decides.{nat_tests}
use Rattle.std.specs.List.{concat}
use Rattle.judge.proofs.ToldSteps.{chunks_tell}
use Rattle.judge.proofs.joining.told_steps.Goals as goal

pub returns-then-steps-le-STEPS : goal.returns-then-steps-le-STEPS
returns-then-steps-le-STEPS c =
    let n = length c.args.list.now / 2 in
    let none : length c.as_chunks.result.1.now ≡ 0 = grind (arith, nat_tests) in
    let whole : 2 * n ≡ length c.args.list.now = omega (arith, c.as_chunks.ensures.back_len) in
    record { fits = (n, sym whole, omega (arith, c.as_chunks.ensures.front_len)); joined = ap concat c.as_chunks.ensures.front ∙ chunks_tell c.args.list.now n whole }
