use Rattle.book.proofs.Samples.{definitions_hold_and_fail}
use Rattle.book.proofs.theorems.definitions_hold_and_fail.Goals as goal

pub returns : goal.returns
returns c = definitions_hold_and_fail
