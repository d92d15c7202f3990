use Rattle.polynomials.proofs.Statements.{grade_zero_is_over}
use Rattle.polynomials.proofs.theorems.grade_zero_is_over.Goals as goal

pub returns : goal.returns
returns c = grade_zero_is_over
