-- Some monomial has the argument if one of those that are left has it.
use Rattle.std.proofs.Common.{◌≤◌}
use Rattle.polynomials.specs.Polynomial.{degree}
use Rattle.polynomials.specs.Coding.{polynomial_from}
use Rattle.orders.proofs.monomials.has_argument.Given as goal

abbrev pub invariant-loop-monomial : goal.invariant-loop-monomial
invariant-loop-monomial l =
    (1 ≤ degree l.i (polynomial_from l.monomial-iterator.bytes.now) → 1 ≤ degree l.i (polynomial_from l.monomials.bytes.now))
    × (1 ≤ degree l.i (polynomial_from l.monomials.bytes.now) → 1 ≤ degree l.i (polynomial_from l.monomial-iterator.bytes.now))
