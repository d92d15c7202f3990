use Rattle.std.proofs.Common.{◌≡◌, [], ap, arith}
use Rattle.polynomials.specs.Polynomial.{degree}
use Rattle.polynomials.specs.Coding.{polynomial_from}
use Rattle.orders.proofs.PathBytes.{says_no}
use Rattle.orders.proofs.monomials.has_argument.Goals as goal

pub returns : goal.returns
returns c =
    let e : polynomial_from c.loop-monomial.monomial-iterator.bytes.now ≡ [] = c.in-None.ensures.steps.0 in
    says_no _ (λ h. let n = c.loop-monomial.invariant.1 h in let d = ap (degree c.args.i) e in omega (arith, n, d))
