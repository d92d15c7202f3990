use Rattle.std.proofs.Common.{◌≡◌, ℕ, ◌≤◌, [], get_or, Some, None, Option, unwrap_or, sym, refl, ap, ◌∙◌, subst₂, inl, inr, arith}
use Rattle.std.proofs.lemmas.Bool.Decides.{not_from_Decides}
use Rattle.std.proofs.lemmas.List.{take_rest}
use Rattle.book.specs.Meaning.{signature_of}
use Rattle.polynomials.specs.Coding.{polynomial_from}
use Rattle.book.proofs.Pairs.{held_arities}
use Rattle.orders.specs.Polynomials.{MonomialsFit, HasArguments}
use Rattle.orders.proofs.interpretation.PolynomialFaultFieldQuestions.check.Goals as goal

pub returns-then-not-monomials_fit : goal.returns-then-not-monomials_fit
returns-then-not-monomials_fit c = λ before first.
    let n = c.unwrap_or-arity.ensures ∙ ap (λ o. unwrap_or o 0) c.arity.ensures in
    let w = c.new-monomials.ensures ∙ take_rest c.args.field.now.value.now 1 in
    (inr (first, inl ((λ f. not_from_Decides _ c.monomials_fit.ensures c.if-not-monomials_fit.true (subst₂ (λ n w. MonomialsFit n [] (polynomial_from w)) (sym n) (sym w) f)), refl)), refl)

pub has_arguments-requires : goal.has_arguments-requires
has_arguments-requires c =
    let b = c.args.book.now in
    let t = b.tables in
    let n = c.unwrap_or-arity.ensures ∙ ap (λ o. unwrap_or o 0) c.arity.ensures in
    omega (arith, n, at_most (signature_of t.bytes.now (get_or c.args.field.now.value.now 0 0)) (held_arities t b.holds _))
  where
    at_most : (o : Option ℕ) → ((n : ℕ) → o ≡ Some n → n ≤ 3) → unwrap_or o 0 ≤ 3
    at_most (Some n) h = h n refl
    at_most None h = omega arith

pub returns-then-not-has_arguments : goal.returns-then-not-has_arguments
returns-then-not-has_arguments c = λ before first.
    let n = c.unwrap_or-arity.ensures ∙ ap (λ o. unwrap_or o 0) c.arity.ensures in
    let w = c.new-monomials.ensures ∙ take_rest c.args.field.now.value.now 1 in
    let fits = subst₂ (λ n w. MonomialsFit n [] (polynomial_from w)) n w (c.monomials_fit.ensures.0 c.if-not-monomials_fit.false) in
    (inr (first, inr (fits, inl ((λ f. not_from_Decides _ c.has_arguments.ensures c.if-not-has_arguments.true (subst₂ (λ n w. HasArguments n (polynomial_from w)) (sym n) (sym w) f)), refl))), refl)

pub returns : goal.returns
returns c = λ before first.
    let n = c.unwrap_or-arity.ensures ∙ ap (λ o. unwrap_or o 0) c.arity.ensures in
    let w = c.new-monomials.ensures ∙ take_rest c.args.field.now.value.now 1 in (
      first,
      (
        subst₂ (λ n w. MonomialsFit n [] (polynomial_from w)) n w (c.monomials_fit.ensures.0 c.if-not-monomials_fit.false),
        (subst₂ (λ n w. HasArguments n (polynomial_from w)) n w (c.has_arguments.ensures.0 c.if-not-has_arguments.false), tt),
      ),
    )
