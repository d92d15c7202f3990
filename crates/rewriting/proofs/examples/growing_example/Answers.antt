use Rattle.rewriting.proofs.Samples.{growing_example}
use Rattle.rewriting.proofs.examples.growing_example.Goals as goal

pub returns : goal.returns
returns c = growing_example
