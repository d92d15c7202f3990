use Rattle.std.proofs.Common.{sym, ap, ◌∙◌, arith}
use Rattle.polynomials.specs.Coding.{cut_off}
use Rattle.polynomials.proofs.Limits.{cut_small}
use Rattle.polynomials.proofs.Measures.{degree_one, degree_zero}
use Rattle.polynomials.proofs.measure.DegreeInAlgebra.variable.Goals as goal

pub returns-then-x-self : goal.returns-then-x-self
returns-then-x-self c interpretation =
    sym (ap (cut_off 2147483648) (degree_one c.args.self.now.variable c.args.x (omega arith) (omega arith) (omega arith)) ∙ cut_small 2147483648 1 (omega arith))

pub returns-else-x-self : goal.returns-else-x-self
returns-else-x-self c interpretation =
    sym (ap (cut_off 2147483648) (degree_zero c.args.self.now.variable c.args.x (omega arith) (omega arith) (λ e. omega arith)) ∙ cut_small 2147483648 0 (omega arith))
