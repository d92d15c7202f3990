use Rattle.order_theory.proofs.Fences.{fence_in_words}
use Rattle.order_theory.proofs.theorems.fence_in_words.Goals as goal

pub returns : goal.returns
returns c = fence_in_words
