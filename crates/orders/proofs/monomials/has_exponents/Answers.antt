use Rattle.std.proofs.Common.{◌≡◌, [], ◌∷◌, sym, subst, inl, inr, arith}
use Rattle.std.proofs.lemmas.Bool.Decides.{not_from_Decides}
use Rattle.polynomials.specs.Polynomial.{Exponents, Monomial, Polynomial}
use Rattle.polynomials.specs.Coding.{polynomial_from}
use Rattle.polynomials.specs.Meant.{meant}
use Rattle.orders.specs.Polynomials.{HasExponents}
use Rattle.orders.proofs.PathBytes.{says_no, says_yes, same_slices}
use Rattle.orders.proofs.MonomialLists.{alike_of, same_bytes}
use Rattle.orders.proofs.monomials.has_exponents.Goals as goal

pub returns-then-eq : goal.returns-then-eq
returns-then-eq c =
    let e : polynomial_from c.loop-monomial.monomial-iterator.bytes.now ≡ meant c.in-Some.monomial ∷ polynomial_from c.next.new.self.bytes.now = c.in-Some.ensures.steps in
    let same = (same_slices c.in-Some.monomial.exponents c.args.of.now.exponents c.eq.result c.eq.ensures).0 c.if-eq.true in
    let alike : (meant c.in-Some.monomial).exponents ≡ (meant c.args.of.now).exponents = alike_of c.in-Some.monomial c.args.of.now same in
    says_yes _ (c.loop-monomial.invariant.0 (subst (HasExponents (meant c.args.of.now).exponents) (sym e) (inl alike)))

pub loop-monomial-preserved : goal.loop-monomial-preserved
loop-monomial-preserved c =
    let e : polynomial_from c.loop-monomial.monomial-iterator.bytes.now ≡ meant c.in-Some.monomial ∷ polynomial_from c.next.new.self.bytes.now = c.in-Some.ensures.steps in
    let other = not_from_Decides c.eq.result (same_slices c.in-Some.monomial.exponents c.args.of.now.exponents c.eq.result c.eq.ensures) c.if-eq.false in
    let x = (meant c.args.of.now).exponents in (
      (λ h. c.loop-monomial.invariant.0 (subst (HasExponents x) (sym e) (inr h))),
      (λ h. behind x (meant c.in-Some.monomial) (polynomial_from c.next.new.self.bytes.now) (λ s. other (same_bytes c.in-Some.monomial c.args.of.now (omega arith) (omega arith) s)) (subst (HasExponents x) e (c.loop-monomial.invariant.1 h))),
    )
  where
    behind : (x : Exponents) (m : Monomial) (p : Polynomial) → (m.exponents ≡ x → ⊥) → HasExponents x (m ∷ p) → HasExponents x p
    behind x m p n (inl s) = absurd (n s)
    behind x m p n (inr h) = h

pub returns : goal.returns
returns c =
    let e : polynomial_from c.loop-monomial.monomial-iterator.bytes.now ≡ [] = c.in-None.ensures.steps.0 in
    says_no _ (λ h. subst (HasExponents (meant c.args.of.now).exponents) e (c.loop-monomial.invariant.1 h))
