use Rattle.order_theory.proofs.PolynomialLaws.{polynomial_order_keeps_the_laws}
use Rattle.order_theory.proofs.theorems.polynomial_order_keeps_the_laws.Goals as goal

pub returns : goal.returns
returns c = polynomial_order_keeps_the_laws
