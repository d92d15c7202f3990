use Rattle.terms.proofs.Samples.{definitions_hold_and_fail}
use Rattle.terms.proofs.theorems.definitions_hold_and_fail.Goals as goal

pub returns : goal.returns
returns c = definitions_hold_and_fail
