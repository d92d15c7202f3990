use Rattle.polynomials.proofs.Statements.{evaluation_theorem}
use Rattle.polynomials.proofs.theorems.evaluation_theorem.Goals as goal

pub returns : goal.returns
returns c = evaluation_theorem
