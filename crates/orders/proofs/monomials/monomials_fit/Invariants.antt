-- All monomials fit if those that are left do.
use Rattle.std.proofs.Common.{length}
use Rattle.polynomials.specs.Coding.{polynomial_from}
use Rattle.orders.proofs.MonomialLists.{FitApart}
use Rattle.orders.proofs.monomials.monomials_fit.Given as goal

abbrev pub invariant-loop-monomial : goal.invariant-loop-monomial
invariant-loop-monomial l =
    (FitApart l.arity (polynomial_from l.rest.bytes.now) → FitApart l.arity (polynomial_from l.monomials.bytes.now))
    × (FitApart l.arity (polynomial_from l.monomials.bytes.now) → FitApart l.arity (polynomial_from l.rest.bytes.now))

abbrev pub decreases-loop-monomial : goal.decreases-loop-monomial
decreases-loop-monomial l = length (polynomial_from l.rest.bytes.now)
