use Rattle.rewriting.proofs.Statements.{innermost_step_theorem}
use Rattle.rewriting.proofs.theorems.innermost_step_theorem.Goals as goal

pub returns : goal.returns
returns c = innermost_step_theorem
