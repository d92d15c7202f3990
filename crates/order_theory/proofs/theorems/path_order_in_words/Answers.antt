use Rattle.order_theory.proofs.PathLaws.{path_order_in_words}
use Rattle.order_theory.proofs.theorems.path_order_in_words.Goals as goal

pub returns : goal.returns
returns c = path_order_in_words
