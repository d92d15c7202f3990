-- Terms of grade 0 are in the order: coefficients that are nowhere smaller, with a greater constant, give greater values.
use Rattle.std.proofs.Common.{◌≡◌, ℕ, zero, suc, ◌-◌, ◌*◌, ◌<◌, ◌≤◌, Bool, true, false, cond, ◌||◌, ltb, ◌⊎◌, List, [], ◌∷◌, refl, ◌∙◌, subst, inl, inr, le_refl, mul-le-mul, mul-lt-mul_of_pos_right, mul-zero, arith}
use Rattle.std.proofs.lemmas.Bool.{cases_eq, cases_Bool, le-ltb, ltb-true, ltb-false, or_parts, or_from}
use Rattle.terms.specs.Term.{Term}
use Rattle.terms.specs.Prefix.{Arities, WellSorted}
use Rattle.polynomials.specs.Polynomial.{Exponents, none, Polynomial, same, weighed, coefficient, degree, value, power_product}
use Rattle.polynomials.specs.Interpretation.{Interpretation, least_number, Proper, evaluate, Over, polynomial_of, shifted}
use Rattle.polynomials.specs.Grade.{steep, large, negative_at, any_negative, positive_constant, grade}
use Rattle.polynomials.specs.Cells.{exponents_at, of_cells}
use Rattle.polynomials.proofs.Values.{none_power, value_shifted, evaluate_agree, four}
use Rattle.polynomials.proofs.Degrees.{degree_shifted}
use Rattle.polynomials.proofs.Cells.{same_true, AllSmall, by_cells}

-- no negative coefficient at the listed exponents
nowhere_at : (p q ms : Polynomial) → negative_at p q ms ≡ false → (e : Exponents) → (coefficient ms e ≡ 0) ⊎ (coefficient q e ≤ coefficient p e)
nowhere_at p q [] h e = inl refl
nowhere_at p q (m ∷ ms) h e =
    let parts = or_parts _ (negative_at p q ms) h in
    elim (cases_Bool (same m.exponents e)) [
      | inl t ↦
          let at : m.exponents ≡ e = same_true m.exponents e t in
          inr (subst (λ a. coefficient q a ≤ coefficient p a) at (ltb-false _ _ parts.0))
      | inr f ↦
          elim (nowhere_at p q ms parts.1 e) [
            | inl z ↦ inl (rw (f, mul-zero, z))
            | inr l ↦ inr l
          ]
    ]

pub nowhere_negative : (p q : Polynomial) → any_negative p q ≡ false → (e : Exponents) → coefficient q e ≤ coefficient p e
nowhere_negative p q h e = elim (nowhere_at p q q h e) [ inl z ↦ omega arith | inr l ↦ l ]

pub no_negative : (p q ms : Polynomial) → ((e : Exponents) → coefficient q e ≤ coefficient p e) → negative_at p q ms ≡ false
no_negative p q [] h = refl
no_negative p q (m ∷ ms) h = or_from _ _ (le-ltb (coefficient p m.exponents) (coefficient q m.exponents) (h m.exponents)) (no_negative p q ms h)

-- coefficients that are nowhere smaller give values that are not smaller; a greater constant makes them greater
of_le : (w : Exponents → ℕ) (c d : ℕ → ℕ) (n : ℕ) → ((k : ℕ) → c k ≤ d k) → weighed w (of_cells c n) ≤ weighed w (of_cells d n)
of_le w c d zero h = omega arith
of_le w c d (suc n) h =
    let a = of_le w c d n h in
    let b : c n * w (exponents_at n) ≤ d n * w (exponents_at n) = mul-le-mul (h n) (le_refl (w (exponents_at n))) in
    omega arith

of_lt : (w : Exponents → ℕ) → 1 ≤ w none → (c d : ℕ → ℕ) (n : ℕ) → ((k : ℕ) → c k ≤ d k) → c 0 < d 0 → 0 < n → weighed w (of_cells c n) < weighed w (of_cells d n)
of_lt w pos c d zero h l k = omega arith
of_lt w pos c d (suc n) h l k =
    let b : c n * w (exponents_at n) ≤ d n * w (exponents_at n) = mul-le-mul (h n) (le_refl (w (exponents_at n))) in
    elim (cases_eq n 0) [
      | inl e ↦
          let z : c n * w (exponents_at n) < d n * w (exponents_at n) = rw e (mul-lt-mul_of_pos_right l pos) in
          let a = of_le w c d n h in
          omega arith
      | inr ne ↦ let a = of_lt w pos c d n h l (omega arith) in omega arith
    ]

pub greater_value : (v : List ℕ) (p q : Polynomial) → AllSmall p → AllSmall q → any_negative p q ≡ false → positive_constant p q ≡ true → value v q < value v p
greater_value v p q sp sq nowhere positive = at 256 refl
  where
    at : (n : ℕ) → n ≡ 256 → value v q < value v p
    at n full =
        let a = by_cells (power_product v) p sp n full in
        let b = by_cells (power_product v) q sq n full in
        let c = of_lt (power_product v) (rw none_power (omega arith)) (λ k. coefficient q (exponents_at k)) (λ k. coefficient p (exponents_at k)) n
        (λ k. nowhere_negative p q nowhere (exponents_at k)) (ltb-true _ _ positive) (omega arith) in
        omega arith

-- degrees up to 3 are small exponents
pub small_from : (p : Polynomial) → ((i : ℕ) → i < 4 → degree i p ≤ 3) → AllSmall p
small_from [] h = tt
small_from (m ∷ p) h =
    let a = h 0 (omega arith) in
    let b = h 1 (omega arith) in
    let c = h 2 (omega arith) in
    let d = h 3 (omega arith) in
    (record { s0 = omega arith; s1 = omega arith; s2 = omega arith; s3 = omega arith }, small_from p (λ i l. let k = h i l in omega arith))

-- a polynomial that is not steep has degrees up to 3
pub not_steep : (p : Polynomial) → steep p ≡ false → (i : ℕ) → i < 4 → degree i p ≤ 3
not_steep p h i l =
    let h0 = or_parts (ltb 3 (degree 0 p)) _ h in
    let h1 = or_parts (ltb 3 (degree 1 p)) _ h0.1 in
    let h2 = or_parts (ltb 3 (degree 2 p)) _ h1.1 in
    at i l (ltb-false _ _ h0.0) (ltb-false _ _ h1.0) (ltb-false _ _ h2.0) (ltb-false _ _ h2.1)
  where
    at : (i : ℕ) → i < 4 → degree 0 p ≤ 3 → degree 1 p ≤ 3 → degree 2 p ≤ 3 → degree 3 p ≤ 3 → degree i p ≤ 3
    at zero l a b c d = a
    at (suc zero) l a b c d = b
    at (suc (suc zero)) l a b c d = c
    at (suc (suc (suc zero))) l a b c d = d
    at (suc (suc (suc (suc i)))) l a b c d = absurd (omega arith)

module _ (sig : Arities) (interpretation : Interpretation) (proper : Proper sig interpretation) where
  shifted_small : (t : Term) → WellSorted sig 4 t → steep (polynomial_of interpretation t) ≡ false → AllSmall (shifted interpretation t)
  shifted_small t w h =
      small_from (shifted interpretation t) (λ i l. let d = degree_shifted sig 4 interpretation proper i t w in let s = not_steep (polynomial_of interpretation t) h i l in omega arith)

  -- the shifted polynomial at α - 1 has the value that the term has at α
  shifted_back : (t : Term) → WellSorted sig 4 t → (α : ℕ → ℕ) → ((x : ℕ) → least_number ≤ α x) → value (four (λ x. α x - least_number)) (shifted interpretation t) ≡ evaluate interpretation α t
  shifted_back t w α least =
      value_shifted interpretation sig t w (λ x. α x - least_number)
      ∙ evaluate_agree interpretation sig 4 _ _ t w (λ x l r. let p = least x in omega arith)

  pub grade_over : (s t : Term) → WellSorted sig 4 s → WellSorted sig 4 t → grade interpretation s t ≡ 0 → Over interpretation s t
  grade_over s t ws wt h α least =
      let p : Polynomial = polynomial_of interpretation s in
      let q : Polynomial = polynomial_of interpretation t in
      let p' : Polynomial = shifted interpretation s in
      let q' : Polynomial = shifted interpretation t in
      let tests = zero_tests (steep p || steep q) (large p || large q) (any_negative p' q') (positive_constant p' q') h in
      let gentle = or_parts (steep p) (steep q) tests.0 in
      let less = greater_value (four (λ x. α x - least_number)) p' q' (shifted_small s ws gentle.0) (shifted_small t wt gentle.1) tests.2 tests.3 in
      let a = shifted_back s ws α least in
      let b = shifted_back t wt α least in
      omega arith
    where
      zero_tests : (a b c d : Bool) → ◌≡◌ {A = ℕ} (cond a 3 (cond b 2 (cond c 1 (cond d 0 1)))) 0 → (a ≡ false) × (b ≡ false) × (c ≡ false) × (d ≡ true)
      zero_tests true b c d h = absurd (omega arith)
      zero_tests false true c d h = absurd (omega arith)
      zero_tests false false true d h = absurd (omega arith)
      zero_tests false false false true h = (refl, refl, refl, refl)
      zero_tests false false false false h = absurd (omega arith)
