use Rattle.order_theory.proofs.PathLaws.{path_order_keeps_the_laws}
use Rattle.order_theory.proofs.theorems.path_order_keeps_the_laws.Goals as goal

pub returns : goal.returns
returns c = path_order_keeps_the_laws
