use Rattle.rewriting.proofs.Statements.{knuth_bendix_theorem}
use Rattle.rewriting.proofs.theorems.knuth_bendix_theorem.Goals as goal

pub returns : goal.returns
returns c = knuth_bendix_theorem
