use Rattle.order_theory.proofs.PolynomialLaws.{equal_polynomials_grade_alike}
use Rattle.order_theory.proofs.theorems.equal_polynomials_grade_alike.Goals as goal

pub returns : goal.returns
returns c = equal_polynomials_grade_alike
