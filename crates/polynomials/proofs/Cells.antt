-- A polynomial with exponents up to 3 is given by its coefficients at the 256 cells.
use Rattle.std.proofs.Common.{◌≡◌, ℕ, zero, suc, ◌+◌, ◌*◌, ◌/◌, ◌%◌, ◌<◌, ◌≤◌, true, false, cond, eqb, ltb, [], ◌∷◌, sym, refl, ap, ◌∙◌, ap₂, inl, inr, mod-eq_of_lt, add-mul, mul-zero, zero-mul, mul-one, arith}
use native.Mathlib.Nat.{div-div-eq-div-mul}
use Rattle.std.proofs.lemmas.Bool.{cases_eq, cases_Bool, cases_lt, le-ltb, lt-ltb, eqb-true, eq-eqb, and_parts, and_from, cond-true, cond-false}
use Rattle.polynomials.specs.Polynomial.{Exponents, Polynomial, same, weighed, coefficient}
use Rattle.polynomials.specs.Cells.{exponents_at, cell, of_cells, Small}

pub same_true : (a b : Exponents) → same a b ≡ true → a ≡ b
same_true a b h =
    let h0 = and_parts (eqb a.e0 b.e0) _ h in
    let h1 = and_parts (eqb a.e1 b.e1) _ h0.1 in
    let h2 = and_parts (eqb a.e2 b.e2) _ h1.1 in
    let p0 = eqb-true a.e0 b.e0 h0.0 in
    let p1 = eqb-true a.e1 b.e1 h1.0 in
    let p2 = eqb-true a.e2 b.e2 h2.0 in
    let p3 = eqb-true a.e3 b.e3 h2.1 in
    λ i. record { e0 = p0 i; e1 = p1 i; e2 = p2 i; e3 = p3 i }

pub same_refl : (a : Exponents) → same a a ≡ true
same_refl a =
    and_from _ _ (eq-eqb a.e0 a.e0 refl) (and_from _ _ (eq-eqb a.e1 a.e1 refl) (and_from _ _ (eq-eqb a.e2 a.e2 refl) (eq-eqb a.e3 a.e3 refl)))

pub cell_below : (e : Exponents) → Small e → cell e < 256
cell_below e s = omega arith

-- the last of a number's digits to the base 4, and the others
digit : (k a r : ℕ) → k ≡ a + 4 * r → a ≤ 3 → (k % 4 ≡ a) × (k / 4 ≡ r)
digit k a r e h = let q : k / 4 ≡ r = omega arith in (omega arith, q)

sixteenth : (k : ℕ) → k / 16 ≡ k / 4 / 4
sixteenth k = sym (div-div-eq-div-mul k 4 4)

sixty_fourth : (k : ℕ) → k / 64 ≡ k / 4 / 4 / 4
sixty_fourth k = sym (ap (λ q. q / 4) (div-div-eq-div-mul k 4 4) ∙ div-div-eq-div-mul k 16 4)

pub at_cell : (e : Exponents) → Small e → exponents_at (cell e) ≡ e
at_cell e s =
    let d0 = digit (cell e) e.e0 (e.e1 + 4 * e.e2 + 16 * e.e3) (omega arith) s.s0 in
    let d1 = digit (cell e / 4) e.e1 (e.e2 + 4 * e.e3) (omega (arith, d0.1)) s.s1 in
    let d2 = digit (cell e / 4 / 4) e.e2 e.e3 (omega (arith, d1.1)) s.s2 in
    let d3 = digit (cell e / 4 / 4 / 4) e.e3 0 (omega (arith, d2.1)) s.s3 in
    let p2 : cell e / 16 % 4 ≡ e.e2 = rw sixteenth d2.0 in
    let p3 : cell e / 64 % 4 ≡ e.e3 = rw sixty_fourth d3.0 in
    λ i. record { e0 = d0.0 i; e1 = d1.0 i; e2 = p2 i; e3 = p3 i }

pub cell_at : (k : ℕ) → k < 256 → cell (exponents_at k) ≡ k
cell_at k h =
    let top : k / 4 / 4 / 4 % 4 ≡ k / 4 / 4 / 4 = mod-eq_of_lt (omega arith) in
    rw (sixteenth, sixty_fourth, top) (omega arith)

module _ (w : Exponents → ℕ) where
  of_zero : (n : ℕ) → weighed w (of_cells (λ k. 0) n) ≡ 0
  of_zero zero = refl
  of_zero (suc n) = let h = of_zero n in let z = zero-mul (w (exponents_at n)) in omega arith

  of_sum : (c d : ℕ → ℕ) (n : ℕ) → weighed w (of_cells (λ k. c k + d k) n) ≡ weighed w (of_cells c n) + weighed w (of_cells d n)
  of_sum c d zero = refl
  of_sum c d (suc n) = let h = of_sum c d n in let z = add-mul (c n) (d n) (w (exponents_at n)) in omega arith

  pub of_agree : (c d : ℕ → ℕ) (n : ℕ) → ((k : ℕ) → k < n → c k ≡ d k) → weighed w (of_cells c n) ≡ weighed w (of_cells d n)
  of_agree c d zero h = refl
  of_agree c d (suc n) h = ap₂ ◌+◌ (ap (λ k. k * w (exponents_at n)) (h n (omega arith))) (of_agree c d n (λ k l. h k (omega arith)))

  -- one monomial
  of_one : (f : ℕ) (a : Exponents) → Small a → (n : ℕ) → n ≤ 256 →
      weighed w (of_cells (λ k. f * cond (same a (exponents_at k)) 1 0) n) ≡ cond (ltb (cell a) n) (f * w a) 0
  of_one f a s zero h = sym (cond-false (ltb (cell a) 0) (f * w a) 0 (le-ltb (cell a) 0 (omega arith)))
  of_one f a s (suc n) h =
      elim (cases_eq (cell a) n) [
        | inl e ↦
            let at : exponents_at n ≡ a = ap exponents_at (sym e) ∙ at_cell a s in
            let now : f * cond (same a (exponents_at n)) 1 0 * w (exponents_at n) ≡ f * w a =
            ap (λ b. f * cond (same a b) 1 0 * w b) at ∙ rw (same_refl a, mul-one) in
            let before = of_one f a s n (omega arith) ∙ cond-false (ltb (cell a) n) (f * w a) 0 (le-ltb (cell a) n (omega arith)) in
            let all = cond-true (ltb (cell a) (suc n)) (f * w a) 0 (lt-ltb (cell a) (suc n) (omega arith)) in
            omega arith
        | inr ne ↦
            let apart : same a (exponents_at n) ≡ false = other a n (omega arith) ne in
            let now : f * cond (same a (exponents_at n)) 1 0 * w (exponents_at n) ≡ 0 = rw (apart, mul-zero, zero-mul) in
            let before = of_one f a s n (omega arith) in
            let tests : ltb (cell a) n ≡ ltb (cell a) (suc n) = shift (cell a) n ne in
            let all = ap (λ b. cond b (f * w a) 0) tests in
            omega arith
      ]
    where
      other : (a : Exponents) (n : ℕ) → n < 256 → (cell a ≡ n → ⊥) → same a (exponents_at n) ≡ false
      other a n h ne =
          elim (cases_Bool (same a (exponents_at n))) [
            | inl t ↦ absurd (ne (ap cell (same_true a (exponents_at n) t) ∙ cell_at n h))
            | inr f ↦ f
          ]

      shift : (i n : ℕ) → (i ≡ n → ⊥) → ltb i n ≡ ltb i (suc n)
      shift i n ne =
          elim (cases_lt i n) [
            | inl l ↦ lt-ltb i n l ∙ sym (lt-ltb i (suc n) (omega arith))
            | inr l ↦ le-ltb i n l ∙ sym (le-ltb i (suc n) (let k : n < i = omega arith in omega arith))
          ]

-- the exponents of each monomial are up to 3
abbrev pub AllSmall : Polynomial → Type 0
AllSmall [] = Unit {0}
AllSmall (m ∷ p) = Small m.exponents × AllSmall p

-- whatever is weighed, the 256 cells tell; the number is a variable here, since antt would count it out
pub by_cells : (w : Exponents → ℕ) (p : Polynomial) → AllSmall p → (n : ℕ) → n ≡ 256 → weighed w p ≡ weighed w (of_cells (λ k. coefficient p (exponents_at k)) n)
by_cells w [] small n full = sym (of_zero w n)
by_cells w (m ∷ p) small n full =
    let below = cell_below m.exponents small.0 in
    let a = of_one w m.factor m.exponents small.0 n (omega arith) in
    let b = cond-true (ltb (cell m.exponents) n) (m.factor * w m.exponents) 0 (lt-ltb (cell m.exponents) n (omega arith)) in
    let c = by_cells w p small.1 n full in
    let d = of_sum w (λ k. m.factor * cond (same m.exponents (exponents_at k)) 1 0) (λ k. coefficient p (exponents_at k)) n in
    omega arith
