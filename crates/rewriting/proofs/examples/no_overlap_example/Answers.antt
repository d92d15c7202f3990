use Rattle.rewriting.proofs.Samples.{no_overlap_example}
use Rattle.rewriting.proofs.examples.no_overlap_example.Goals as goal

pub returns : goal.returns
returns c = no_overlap_example
