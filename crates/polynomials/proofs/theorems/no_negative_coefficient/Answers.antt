use Rattle.polynomials.proofs.Statements.{no_negative_coefficient}
use Rattle.polynomials.proofs.theorems.no_negative_coefficient.Goals as goal

pub returns : goal.returns
returns c = no_negative_coefficient
