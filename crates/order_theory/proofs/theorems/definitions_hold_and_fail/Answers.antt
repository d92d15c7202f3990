use Rattle.order_theory.proofs.Samples.{orders_hold_and_fail}
use Rattle.order_theory.proofs.theorems.definitions_hold_and_fail.Goals as goal

pub returns : goal.returns
returns c = orders_hold_and_fail
