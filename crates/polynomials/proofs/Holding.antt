-- What a table holds: products of tables are products of polynomials.
use Rattle.std.proofs.Common.{◌≡◌, ℕ, zero, suc, ◌+◌, ◌*◌, ◌^◌, ◌<◌, ◌≤◌, max, cond, List, [], ◌∷◌, ◌++◌, length, get_or, sym, ap, ◌∙◌, inl, inr, mul_comm, add-mul, one-mul, pow-suc, mul-zero, zero-mul, mul-one, arith}
use native.Mathlib.Nat.{pow-zero}
use Rattle.std.proofs.lemmas.Bool.{cases_Bool}
use Rattle.polynomials.specs.Polynomial.{Exponents, together, same, exponent, Monomial, Polynomial, weighed, coefficient, total, degree, multiple, product, power}
use Rattle.polynomials.specs.Cells.{exponents_at, held, Holds, NoCarry, product_at, PowerRoom}
use Rattle.polynomials.proofs.Values.{weighed_product, weighed_agree}
use Rattle.polynomials.proofs.Degrees.{exponent_together}
use Rattle.polynomials.proofs.Cells.{same_true, of_agree, by_cells}
use Rattle.polynomials.proofs.Grades.{small_from}

-- ── totals ──

pub coefficient_total : (p : Polynomial) (e : Exponents) → coefficient p e ≤ total p
coefficient_total [] e = omega arith
coefficient_total (m ∷ p) e =
    let h = coefficient_total p e in
    let z = mul-zero m.factor in
    elim (cases_Bool (same m.exponents e)) [
      | inl t ↦ rw t (omega arith)
      | inr f ↦ rw f (omega arith)
    ]

weighed_constant : (k : ℕ) (p : Polynomial) → weighed (λ e. k) p ≡ total p * k
weighed_constant k [] = sym (zero-mul k)
weighed_constant k (m ∷ p) = rw (weighed_constant k p, mul-one, add-mul)

pub total_product : (p q : Polynomial) → total (product p q) ≡ total p * total q
total_product p q = weighed_product (λ e. 1) p q ∙ weighed_constant (total q) p

pub total_power : (q : Polynomial) (n : ℕ) → total (power q n) ≡ total q ^ n
total_power q zero = sym (pow-zero (total q))
total_power q (suc n) = total_product q (power q n) ∙ ap (λ k. total q * k) (total_power q n) ∙ mul_comm (total q) (total q ^ n) ∙ sym (pow-suc (total q) n)

-- ── degrees ──

-- where a coefficient stands, the exponents are within the degrees
pub within_degree : (p : Polynomial) (e : Exponents) → 1 ≤ coefficient p e → (i : ℕ) → exponent i e ≤ degree i p
within_degree [] e h i = absurd (omega arith)
within_degree (m ∷ p) e h i =
    elim (cases_Bool (same m.exponents e)) [
      | inl t ↦ let k = ap (exponent i) (same_true m.exponents e t) in omega arith
      | inr f ↦ let z : m.factor * cond (same m.exponents e) 1 0 ≡ 0 = rw (f, mul-zero) in let k = within_degree p e (omega arith) i in omega arith
    ]

module _ (i : ℕ) where
  degree-++ : (p q : Polynomial) → degree i (p ++ q) ≡ max (degree i p) (degree i q)
  degree-++ [] q = omega arith
  degree-++ (m ∷ p) q = let h = degree-++ p q in omega arith

  degree_multiple : (m : Monomial) (q : Polynomial) → degree i (multiple m q) ≤ exponent i m.exponents + degree i q
  degree_multiple m [] = omega arith
  degree_multiple m (n ∷ q) = let h = degree_multiple m q in let e = exponent_together i m.exponents n.exponents in omega arith

  pub degree_product_le : (p q : Polynomial) → degree i (product p q) ≤ degree i p + degree i q
  degree_product_le [] q = omega arith
  degree_product_le (m ∷ p) q =
      let a = degree-++ (multiple m q) (product p q) in
      let b = degree_multiple m q in
      let c = degree_product_le p q in
      omega arith

-- ── tables ──

module _ (a : List ℕ) (p : Polynomial) (degrees : (i : ℕ) → i < 4 → degree i p ≤ 3) (holds : Holds a p) where
  -- whatever is weighed, the table and the polynomial give the same
  pub held_same : (w : Exponents → ℕ) → weighed w (held a) ≡ weighed w p
  held_same w = of_agree w (λ k. get_or a k 0) (λ k. coefficient p (exponents_at k)) (length a) (λ k h. holds.each k (let l = holds.full in omega arith)) ∙ sym (by_cells w p (small_from p degrees) (length a) holds.full)

module _ (a b : List ℕ) (p q : Polynomial) (hold_a : Holds a p) (hold_b : Holds b q)
    (degrees : (i : ℕ) → i < 4 → degree i p + degree i q ≤ 3) where
  pub product_same : (k : ℕ) → product_at a b k ≡ coefficient (product p q) (exponents_at k)
  unfolding product_at
  product_same k =
      let w : Exponents → ℕ = λ e. cond (same e (exponents_at k)) 1 0 in
      weighed_product w (held a) (held b)
      ∙ weighed_agree (λ x. weighed (λ y. w (together x y)) (held b)) (λ x. weighed (λ y. w (together x y)) q) (held a)
      (λ x. held_same b q (λ i h. let d = degrees i h in omega arith) hold_b (λ y. w (together x y)))
      ∙ held_same a p (λ i h. let d = degrees i h in omega arith) hold_a (λ x. weighed (λ y. w (together x y)) q)
      ∙ sym (weighed_product w p q)

  -- no exponent passes 3
  pub no_carry : NoCarry a b
  no_carry i j hi hj x y =
      let p_at : (v : ℕ) → exponent v (exponents_at i) ≤ degree v p = within_degree p (exponents_at i) (let h = hold_a.each i hi in omega arith) in
      let q_at : (v : ℕ) → exponent v (exponents_at j) ≤ degree v q = within_degree q (exponents_at j) (let h = hold_b.each j hj in omega arith) in
      record {
        s0 = omega (arith, p_at 0, q_at 0, degrees 0 (omega arith));
        s1 = omega (arith, p_at 1, q_at 1, degrees 1 (omega arith));
        s2 = omega (arith, p_at 2, q_at 2, degrees 2 (omega arith));
        s3 = omega (arith, p_at 3, q_at 3, degrees 3 (omega arith));
      }

  pub product_room : total p * total q ≤ 2147483647 → (k : ℕ) → product_at a b k ≤ 2147483647
  product_room room k = let e = product_same k in let c = coefficient_total (product p q) (exponents_at k) in let t = total_product p q in omega arith

-- the room for one factor, as the product of the tables has it
one_factor : {a b : List ℕ} {p q : Polynomial} → PowerRoom a b 1 p q → (i : ℕ) → i < 4 → degree i p + degree i q ≤ 3
one_factor {q = q} room i h = let d = room.degrees i h in let m = one-mul (degree i q) in omega arith

module _ (a b : List ℕ) (p q : Polynomial) (room : PowerRoom a b 1 p q) where
  pub times_apart : NoCarry a b
  times_apart = no_carry a b p q room.left room.right (one_factor room)

  pub times_room : (k : ℕ) → product_at a b k ≤ 2147483647
  times_room = product_room a b p q room.left room.right (one_factor room) (let r = room.room 1 (omega arith) in let e : total q ^ 1 ≡ total q = pow-suc (total q) 0 ∙ rw pow-zero (one-mul (total q)) in let f = ap (λ k. total p * k) e in omega arith)

  pub times_same : (k : ℕ) → product_at a b k ≡ coefficient (product p q) (exponents_at k)
  times_same = product_same a b p q room.left room.right (one_factor room)
