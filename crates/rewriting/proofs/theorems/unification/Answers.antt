use Rattle.rewriting.proofs.Statements.{unification}
use Rattle.rewriting.proofs.theorems.unification.Goals as goal

pub returns : goal.returns
returns c = unification
