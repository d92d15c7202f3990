use Rattle.std.proofs.Common.{◌≡◌, max}
use Rattle.polynomials.specs.Polynomial.{greatest, dot}
use Rattle.polynomials.specs.Coding.{polynomial_from}
use Rattle.polynomials.proofs.measure.symbol_degree.Given as goal

abbrev pub invariant-loop-monomial : goal.invariant-loop-monomial
invariant-loop-monomial l = max l.most (greatest (dot l.args.numbers) (polynomial_from l.monomial-iterator.bytes.now)) ≡ greatest (dot l.args.numbers) (polynomial_from l.monomials)
