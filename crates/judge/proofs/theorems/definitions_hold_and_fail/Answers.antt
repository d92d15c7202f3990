use Rattle.judge.proofs.Samples.{orienting_holds_and_fails}
use Rattle.judge.proofs.theorems.definitions_hold_and_fail.Goals as goal

pub returns : goal.returns
returns c = orienting_holds_and_fails
