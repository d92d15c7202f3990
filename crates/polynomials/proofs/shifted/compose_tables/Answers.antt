use Rattle.std.proofs.Common.{◌≡◌, cond, [], ◌∷◌, ap, subst, ◌∙◌, arith}
use Rattle.polynomials.specs.Polynomial.{coefficient, compose_monomial, compose, same}
use Rattle.polynomials.specs.Cells.{exponents_at, MonomialRoom, Each}
use Rattle.polynomials.specs.Coding.{polynomial_from}
use Rattle.polynomials.specs.Meant.{meant}
use Rattle.polynomials.proofs.Holding.{coefficient_total}
use Rattle.polynomials.proofs.Values.{weighed-++}
use Rattle.polynomials.proofs.shifted.compose_tables.Goals as goal

pub add_monomial-requires-clause-small : goal.add_monomial-requires-clause-small
add_monomial-requires-clause-small c j h =
    let i = (c.loop-monomial.invariant.1 c.requires.0 c.requires.1 c.requires.2 c.requires.3 c.requires.4).1 j h in
    let t = coefficient_total (compose (polynomial_from c.args.monomials.now) (c.requires.0 ∷ c.requires.1 ∷ c.requires.2 ∷ [])) (exponents_at j) in
    let r = c.requires.4.room in
    omega arith

pub loop-monomial-preserved : goal.loop-monomial-preserved
loop-monomial-preserved c = (
  c.add_monomial.ensures.full ∙ c.loop-monomial.invariant.0,
  λ p q s three room.
      let e : polynomial_from c.loop-monomial.monomial-iterator.bytes.now ≡ meant c.in-Some.monomial ∷ polynomial_from c.next.new.self.bytes.now = c.in-Some.ensures.steps in
      let inv = c.loop-monomial.invariant.1 p q s three room in
      let left = subst (Each (λ m. MonomialRoom m p q s)) e inv.0 in (
        left.1,
        λ j h.
            let i = inv.1 j h in
            let a = c.add_monomial.ensures.each p q s three left.0 j h in
            let t = ap (λ f. coefficient (compose f (p ∷ q ∷ s ∷ [])) (exponents_at j)) e
            ∙ weighed-++ (λ a. cond (same a (exponents_at j)) 1 0) (compose_monomial (meant c.in-Some.monomial) (p ∷ q ∷ s ∷ [])) (compose (polynomial_from c.next.new.self.bytes.now) (p ∷ q ∷ s ∷ [])) in
            omega arith,
      ),
)
