use Rattle.polynomials.proofs.Statements.{interpretation_gives_reduction_order}
use Rattle.polynomials.proofs.theorems.interpretation_gives_reduction_order.Goals as goal

pub returns : goal.returns
returns c = interpretation_gives_reduction_order
