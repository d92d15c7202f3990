use Rattle.std.proofs.Common.{◌≡◌, ◌+◌, ◌≤◌}
use Rattle.polynomials.specs.Polynomial.{value}
use Rattle.polynomials.specs.Coding.{polynomial_from, cut_off}
use Rattle.polynomials.proofs.measure.symbol_value.Given as goal

abbrev pub invariant-loop-monomial : goal.invariant-loop-monomial
invariant-loop-monomial l =
    (l.sum ≤ 2147483648)
    × (cut_off 2147483648 (l.sum + value l.args.numbers (polynomial_from l.monomial-iterator.bytes.now)) ≡ cut_off 2147483648 (value l.args.numbers (polynomial_from l.monomials)))
