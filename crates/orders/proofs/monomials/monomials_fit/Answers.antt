use Rattle.std.proofs.Common.{◌≡◌, [], ◌∷◌, length, sym, ap, subst, arith}
use Rattle.std.proofs.lemmas.Bool.Decides.{not_from_Decides}
use Rattle.polynomials.specs.Coding.{polynomial_from}
use Rattle.polynomials.specs.Meant.{meant}
use Rattle.orders.proofs.PathBytes.{says_no, says_yes}
use Rattle.orders.proofs.MonomialLists.{FitApart, fit_apart, all_fit}
use Rattle.orders.proofs.monomials.monomials_fit.Goals as goal

pub loop-monomial-smaller : goal.loop-monomial-smaller
loop-monomial-smaller c =
    let e : polynomial_from c.loop-monomial.rest.bytes.now ≡ meant c.in-Some.monomial ∷ polynomial_from c.next.new.self.bytes.now = c.in-Some.ensures.steps in
    omega (arith, ap length e)

pub returns-then-not-fits_alone : goal.returns-then-not-fits_alone
returns-then-not-fits_alone c =
    let e : polynomial_from c.loop-monomial.rest.bytes.now ≡ meant c.in-Some.monomial ∷ polynomial_from c.next.new.self.bytes.now = c.in-Some.ensures.steps in
    says_no _ (λ f. not_from_Decides _ c.fits_alone.ensures c.if-not-fits_alone.true (subst (FitApart c.args.arity) e (c.loop-monomial.invariant.1 (fit_apart c.args.arity [] _ f))).0)

pub returns-then-has_exponents : goal.returns-then-has_exponents
returns-then-has_exponents c =
    let e : polynomial_from c.loop-monomial.rest.bytes.now ≡ meant c.in-Some.monomial ∷ polynomial_from c.next.new.self.bytes.now = c.in-Some.ensures.steps in
    says_no _ (λ f. (subst (FitApart c.args.arity) e (c.loop-monomial.invariant.1 (fit_apart c.args.arity [] _ f))).1 (c.has_exponents.ensures.0 c.if-has_exponents.true))

pub loop-monomial-preserved : goal.loop-monomial-preserved
loop-monomial-preserved c =
    let n = c.args.arity in
    let e : polynomial_from c.loop-monomial.rest.bytes.now ≡ meant c.in-Some.monomial ∷ polynomial_from c.next.new.self.bytes.now = c.in-Some.ensures.steps in
    let fits = c.fits_alone.ensures.0 c.if-not-fits_alone.false in
    let new = not_from_Decides _ c.has_exponents.ensures c.if-has_exponents.false in (
      (λ f. c.loop-monomial.invariant.0 (subst (FitApart n) (sym e) (fits, new, f))),
      (λ f. (subst (FitApart n) e (c.loop-monomial.invariant.1 f)).2),
    )

pub returns : goal.returns
returns c =
    let e : polynomial_from c.loop-monomial.rest.bytes.now ≡ [] = c.in_default.ensures.steps.0 in
    says_yes _ (all_fit c.args.arity _ (c.loop-monomial.invariant.0 (subst (FitApart c.args.arity) (sym e) tt)))
