use Rattle.rewriting.proofs.Samples.{self_overlap_example}
use Rattle.rewriting.proofs.examples.self_overlap_example.Goals as goal

pub returns : goal.returns
returns c = self_overlap_example
