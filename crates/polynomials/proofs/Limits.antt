-- Numbers that are cut off at a limit: sums and products may be cut off on the way, and nothing is lost.
use Rattle.std.proofs.Common.{◌≡◌, ℕ, zero, suc, ◌+◌, ◌*◌, ◌^◌, ◌<◌, ◌≤◌, min, max, List, [], ◌∷◌, get_or, sym, refl, ap, ◌∙◌, inl, inr, le_refl, mul_comm, mul-le-mul, pow-suc, mul-zero, mul-one, arith}
use native.Mathlib.Nat.{pow-zero}
use Rattle.std.proofs.lemmas.Bool.{cases_lt, cases_eq}
use Rattle.polynomials.specs.Polynomial.{Exponents, Polynomial, power_product, value, greatest, dot}
use Rattle.polynomials.specs.Coding.{cut_off}

module _ (limit : ℕ) where
  pub cut_le : (n : ℕ) → cut_off limit n ≤ limit
  unfolding cut_off
  cut_le n = omega arith

  pub cut_small : (n : ℕ) → n ≤ limit → cut_off limit n ≡ n
  unfolding cut_off
  cut_small n h = omega arith

  pub cut_large : (n : ℕ) → limit ≤ n → cut_off limit n ≡ limit
  unfolding cut_off
  cut_large n h = omega arith

  pub cut_twice : (n : ℕ) → cut_off limit (cut_off limit n) ≡ cut_off limit n
  cut_twice n = cut_small (cut_off limit n) (cut_le n)

  -- a number is above what is below the limit exactly if it is when cut off
  pub cut_above : (k n : ℕ) → k < limit → (k < cut_off limit n → k < n) × (k < n → k < cut_off limit n)
  unfolding cut_off
  cut_above k n h = ((λ l. omega arith), λ l. omega arith)

  -- a factor may be cut off
  pub cut_factor : (x y : ℕ) → cut_off limit (cut_off limit x * y) ≡ cut_off limit (x * y)
  cut_factor x y =
      elim (cases_lt x limit) [
        | inl h ↦ ap (λ k. cut_off limit (k * y)) (cut_small x (omega arith))
        | inr h ↦
            elim (cases_eq y 0) [
              | inl z ↦ rw z (rw (mul-zero (cut_off limit x), mul-zero x) refl)
              | inr nz ↦
                  let a : limit * 1 ≤ x * y = mul-le-mul {m₁ = 1} h (omega arith) in
                  let b : limit * 1 ≤ limit * y = mul-le-mul {m₁ = 1} (le_refl limit) (omega arith) in
                  let m = mul-one limit in
                  ap (λ k. cut_off limit (k * y)) (cut_large x h) ∙ cut_large (limit * y) (omega arith) ∙ sym (cut_large (x * y) (omega arith))
            ]
      ]

  -- a number may be cut off at a larger limit before
  pub cut_min : (n more : ℕ) → limit ≤ more → cut_off limit (min n more) ≡ cut_off limit n
  unfolding cut_off
  cut_min n more h = omega arith

  -- so numbers that are the same when cut off have such sums, products, powers and maxima
  pub mul_alike : (x x' y y' : ℕ) → cut_off limit x ≡ cut_off limit x' → cut_off limit y ≡ cut_off limit y' → cut_off limit (x * y) ≡ cut_off limit (x' * y')
  mul_alike x x' y y' p q =
      sym (cut_factor x y) ∙ ap (λ k. cut_off limit (k * y)) p ∙ cut_factor x' y ∙ ap (cut_off limit) (mul_comm x' y)
      ∙ sym (cut_factor y x') ∙ ap (λ k. cut_off limit (k * x')) q ∙ cut_factor y' x' ∙ ap (cut_off limit) (mul_comm y' x')

  pub add_alike : (x x' y y' : ℕ) → cut_off limit x ≡ cut_off limit x' → cut_off limit y ≡ cut_off limit y' → cut_off limit (x + y) ≡ cut_off limit (x' + y')
  unfolding cut_off
  add_alike x x' y y' p q = omega arith

  pub max_alike : (x x' y y' : ℕ) → cut_off limit x ≡ cut_off limit x' → cut_off limit y ≡ cut_off limit y' → cut_off limit (max x y) ≡ cut_off limit (max x' y')
  unfolding cut_off
  max_alike x x' y y' p q = omega arith

  pub pow_alike : (x x' n : ℕ) → cut_off limit x ≡ cut_off limit x' → cut_off limit (x ^ n) ≡ cut_off limit (x' ^ n)
  pow_alike x x' zero p = ap (cut_off limit) (pow-zero x ∙ sym (pow-zero x'))
  pow_alike x x' (suc n) p = ap (cut_off limit) (pow-suc x n) ∙ mul_alike (x ^ n) (x' ^ n) x x' (pow_alike x x' n p) p ∙ sym (ap (cut_off limit) (pow-suc x' n))

  -- so a power, and a multiple of it, may be cut off at a larger limit before
  pub cut_multiple : (start base n more : ℕ) → limit ≤ more → cut_off limit (min (start * min (base ^ n) more) more) ≡ cut_off limit (start * base ^ n)
  cut_multiple start base n more h =
      cut_min (start * min (base ^ n) more) more h ∙ mul_alike start start (min (base ^ n) more) (base ^ n) refl (cut_min (base ^ n) more h)

  -- and so have polynomials the same values, and the same degrees, at such numbers
  module _ (ns ms : List ℕ) (alike : (i : ℕ) → cut_off limit (get_or ns i 0) ≡ cut_off limit (get_or ms i 0)) where
    product_alike : (e : Exponents) → cut_off limit (power_product ns e) ≡ cut_off limit (power_product ms e)
    product_alike e =
        mul_alike _ _ _ _ (pow_alike _ _ e.e0 (alike 0))
        (mul_alike _ _ _ _ (pow_alike _ _ e.e1 (alike 1)) (mul_alike _ _ _ _ (pow_alike _ _ e.e2 (alike 2)) (pow_alike _ _ e.e3 (alike 3))))

    pub value_alike : (p : Polynomial) → cut_off limit (value ns p) ≡ cut_off limit (value ms p)
    value_alike [] = refl
    value_alike (m ∷ p) = add_alike _ _ _ _ (mul_alike m.factor m.factor _ _ refl (product_alike m.exponents)) (value_alike p)

    dot_alike : (e : Exponents) → cut_off limit (dot ns e) ≡ cut_off limit (dot ms e)
    dot_alike e =
        add_alike _ _ _ _ (mul_alike e.e0 e.e0 _ _ refl (alike 0))
        (add_alike _ _ _ _ (mul_alike e.e1 e.e1 _ _ refl (alike 1))
        (add_alike _ _ _ _ (mul_alike e.e2 e.e2 _ _ refl (alike 2)) (mul_alike e.e3 e.e3 _ _ refl (alike 3))))

    pub greatest_alike : (p : Polynomial) → cut_off limit (greatest (dot ns) p) ≡ cut_off limit (greatest (dot ms) p)
    greatest_alike [] = refl
    greatest_alike (m ∷ p) = max_alike _ _ _ _ (dot_alike m.exponents) (greatest_alike p)
