use Rattle.std.proofs.Common.{eqb, sym}
use Rattle.std.proofs.lemmas.Bool.{eq-eqb, ne_eqb, cond-true, cond-false}
use Rattle.polynomials.specs.Polynomial.{sum, constant}
use Rattle.polynomials.specs.Coding.{polynomial_from}
use Rattle.polynomials.specs.Examples.{first_argument}
use Rattle.examples.proofs.doubling.DoublingSymbols.monomials.Goals as goal

pub returns-then-code-eq2 : goal.returns-then-code-eq2
unfolding polynomial_from
returns-then-code-eq2 c = sym (cond-true (eqb c.args.code 2) (sum (first_argument 2 1) (constant 1)) (first_argument 2 1) (eq-eqb c.args.code 2 c.if-code-eq2.true))

pub returns-else-code-eq2 : goal.returns-else-code-eq2
unfolding polynomial_from
returns-else-code-eq2 c = sym (cond-false (eqb c.args.code 2) (sum (first_argument 2 1) (constant 1)) (first_argument 2 1) (ne_eqb c.args.code 2 c.if-code-eq2.false))
