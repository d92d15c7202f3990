use Rattle.rewriting.proofs.Samples.{innermost_example}
use Rattle.rewriting.proofs.examples.innermost_example.Goals as goal

pub returns : goal.returns
returns c = innermost_example
