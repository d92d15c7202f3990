use Rattle.orders.proofs.Samples.{figures_hold_and_fail}
use Rattle.orders.proofs.theorems.definitions_hold_and_fail.Goals as goal

pub returns : goal.returns
returns c = figures_hold_and_fail
