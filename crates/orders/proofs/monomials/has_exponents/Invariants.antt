-- The exponents are in the monomials if they are in those that are left.
use Rattle.polynomials.specs.Coding.{polynomial_from}
use Rattle.polynomials.specs.Meant.{meant}
use Rattle.orders.specs.Polynomials.{HasExponents}
use Rattle.orders.proofs.monomials.has_exponents.Given as goal

abbrev pub invariant-loop-monomial : goal.invariant-loop-monomial
invariant-loop-monomial l =
    (HasExponents (meant l.of).exponents (polynomial_from l.monomial-iterator.bytes.now) → HasExponents (meant l.of).exponents (polynomial_from l.monomials.bytes.now))
    × (HasExponents (meant l.of).exponents (polynomial_from l.monomials.bytes.now) → HasExponents (meant l.of).exponents (polynomial_from l.monomial-iterator.bytes.now))
