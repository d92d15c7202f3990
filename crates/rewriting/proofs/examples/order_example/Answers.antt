use Rattle.rewriting.proofs.Samples.{order_example}
use Rattle.rewriting.proofs.examples.order_example.Goals as goal

pub returns : goal.returns
returns c = order_example
