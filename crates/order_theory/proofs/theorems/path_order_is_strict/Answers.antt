use Rattle.order_theory.proofs.PathLaws.{path_order_is_strict}
use Rattle.order_theory.proofs.theorems.path_order_is_strict.Goals as goal

pub returns : goal.returns
returns c = path_order_is_strict
