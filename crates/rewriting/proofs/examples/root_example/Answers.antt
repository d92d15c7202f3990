use Rattle.rewriting.proofs.Samples.{root_example}
use Rattle.rewriting.proofs.examples.root_example.Goals as goal

pub returns : goal.returns
returns c = root_example
