-- The polynomials of symbols, read one monomial after the other.
use Rattle.std.proofs.Common.{◌≡◌, ℕ, zero, suc, ◌+◌, ◌*◌, ◌/◌, ◌^◌, ◌≤◌, List, ◌∷◌, length, Some, sym, refl, ap, ◌∙◌, inl, inr, mul_assoc, mul-one, arith}
use native.Mathlib.Nat.{pow-zero}
use Rattle.std.proofs.lemmas.Bool.{cases_lt}
use Rattle.polynomials.specs.Polynomial.{Monomial, Polynomial, power_product, value, degree}
use Rattle.terms.specs.Prefix.{Arities}
use Rattle.polynomials.specs.Interpretation.{Interpretation, Proper}
use Rattle.polynomials.specs.Coding.{monomials_at, polynomial_from, cut_off}
use Rattle.polynomials.proofs.Limits.{cut_twice, cut_factor, add_alike}

-- three factors one after the other, each cut off
pub three_factors : (limit f a b c d : ℕ) → cut_off limit (cut_off limit (cut_off limit (f * a) * b) * c) ≡ cut_off limit (f * (a * (b * (c * d ^ 0))))
three_factors limit f a b c d =
    cut_factor limit (cut_off limit (f * a) * b) c
    ∙ ap (cut_off limit) (mul_assoc (cut_off limit (f * a)) b c)
    ∙ cut_factor limit (f * a) (b * c)
    ∙ rw (pow-zero, mul-one, mul_assoc)

-- a sum, one monomial more
pub value_turn : (limit : ℕ) (v : List ℕ) (m : Monomial) (p : Polynomial) (s n : ℕ) →
    n ≡ cut_off limit (m.factor * power_product v m.exponents) →
    cut_off limit (cut_off limit (s + n) + value v p) ≡ cut_off limit (s + value v (m ∷ p))
value_turn limit v m p s n is =
    let k = m.factor * power_product v m.exponents in
    let r = value v p in
    let same : cut_off limit n ≡ cut_off limit k = ap (cut_off limit) is ∙ cut_twice limit k in
    add_alike limit (cut_off limit (s + n)) (s + k) r r (cut_twice limit (s + n) ∙ add_alike limit s s n k refl same) refl
    ∙ ap (cut_off limit) {x = s + k + r} {y = s + (k + r)} (omega arith)

-- a symbol whose polynomial has three variables has at most three arguments
fourth_absent : (n p : ℕ) (bs : List ℕ) → degree 3 (monomials_at n p bs) ≡ 0
fourth_absent zero p bs = refl
fourth_absent (suc n) p bs = let h = fourth_absent n (p + 7) bs in omega arith

pub arity_small : (sig : Arities) (interpretation : Interpretation) → Proper sig interpretation → (f n : ℕ) (bs : List ℕ) → Some n ≡ sig f → polynomial_from bs ≡ interpretation f → n ≤ 3
unfolding polynomial_from
arity_small sig interpretation proper f n bs arity is =
    elim (cases_lt 3 n) [
      | inl h ↦
          let a : 1 ≤ degree 3 (interpretation f) = (proper f n (sym arity)).present 3 h in
          let b : degree 3 (interpretation f) ≡ 0 = ap (degree 3) (sym is) ∙ fourth_absent (length bs / 7) 0 bs in
          absurd (omega arith)
      | inr h ↦ h
    ]
