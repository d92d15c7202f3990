use Rattle.rewriting.proofs.Statements.{one_critical_pair}
use Rattle.rewriting.proofs.theorems.one_critical_pair.Goals as goal

pub returns : goal.returns
returns c = one_critical_pair
