use Rattle.rewriting.proofs.Statements.{critical_pair_theorem}
use Rattle.rewriting.proofs.theorems.critical_pair_theorem.Goals as goal

pub returns : goal.returns
returns c = critical_pair_theorem
