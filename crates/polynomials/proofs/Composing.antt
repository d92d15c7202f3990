-- A monomial with polynomials put for its variables, factor by factor.
use Rattle.std.proofs.Common.{◌≡◌, ℕ, zero, suc, ◌+◌, ◌*◌, ◌^◌, ◌≤◌, List, [], ◌∷◌, sym, ap, ◌∙◌, ap₂, inl, inr, le_refl, mul_assoc, suc-mul, mul-le-mul, pow-suc, zero-mul, mul-one, arith}
use native.Mathlib.Nat.{pow-zero, one-le-pow, one-le-mul}
use Rattle.std.proofs.lemmas.Bool.{cases_eq}
use Rattle.polynomials.specs.Polynomial.{Exponents, Monomial, Polynomial, weighed, coefficient, total, degree, constant, product, power, compose_monomial}
use Rattle.polynomials.specs.Cells.{Holds, PowerRoom, MonomialRoom}
use Rattle.polynomials.specs.Tables.{cells_at, HoldThree}
use Rattle.polynomials.specs.declared.table.Table.{Table}
use Rattle.polynomials.proofs.Degrees.{exponent_none}
use Rattle.polynomials.proofs.Holding.{total_product, total_power, degree_product_le, coefficient_total}
use Rattle.polynomials.proofs.Identities.{Same, product_assoc, product_right, product_one}

-- a lower power is no larger, unless the number is 0
pow_lower : (t n j : ℕ) → j ≤ n → (1 ≤ n → 1 ≤ t) → t ^ j ≤ t ^ n
pow_lower t zero j l pos = let e : j ≡ 0 = omega arith in rw e (le_refl (t ^ 0))
pow_lower t (suc n) j l pos =
    elim (cases_eq j (suc n)) [
      | inl e ↦ rw e (le_refl (t ^ suc n))
      | inr ne ↦
          let h = pow_lower t n j (omega arith) (λ k. pos (omega arith)) in
          let m : t ^ n * 1 ≤ t ^ n * t = mul-le-mul (le_refl (t ^ n)) (pos (omega arith)) in
          let o = mul-one (t ^ n) in
          let s = pow-suc t n in
          omega arith
    ]

pow_positive : (t n : ℕ) → (1 ≤ n → 1 ≤ t) → 1 ≤ t ^ n
pow_positive t zero pos = rw pow-zero (omega arith)
pow_positive t (suc n) pos = one-le-pow (suc n) t (pos (omega arith))

-- so much for a part of a product
part_room : (x t n j y limit : ℕ) → j ≤ n → (1 ≤ n → 1 ≤ t) → 1 ≤ y → x * (t ^ n * y) ≤ limit → x * t ^ j ≤ limit
part_room x t n j y limit l pos one room =
    let a : x * (t ^ j * 1) ≤ x * (t ^ n * y) = mul-le-mul (le_refl x) (mul-le-mul (pow_lower t n j l pos) one) in
    let b = ap (λ k. x * k) (mul-one (t ^ j)) in
    omega arith

degree_constant : (i c : ℕ) → degree i (constant c) ≡ 0
degree_constant i c = let z = exponent_none i in omega arith

degree_power_le : (i : ℕ) (q : Polynomial) (n : ℕ) → degree i (power q n) ≤ n * degree i q
degree_power_le i q zero = let d = degree_constant i 1 in let z = zero-mul (degree i q) in omega arith
degree_power_le i q (suc n) = let h = degree_power_le i q n in let l = degree_product_le i q (power q n) in let m = suc-mul n (degree i q) in omega arith

total_constant : (c : ℕ) → total (constant c) ≡ c
total_constant c = let m = mul-one c in omega arith

-- r is the table a times the n-th power of the table b
abbrev pub Times : List ℕ → List ℕ → ℕ → List ℕ → Type 0
Times a b n r = (p q : Polynomial) → PowerRoom a b n p q → Holds r (product p (power q n))

module _ (m : Monomial) (p q s : Polynomial) (fits : MonomialRoom m p q s) where
  abbrev pub one_in : Polynomial
  one_in = product (constant m.factor) (power p m.exponents.e0)

  abbrev pub two_in : Polynomial
  two_in = product one_in (power q m.exponents.e1)

  abbrev pub three_in : Polynomial
  three_in = product two_in (power s m.exponents.e2)

  total_one : total one_in ≡ m.factor * total p ^ m.exponents.e0
  total_one = total_product (constant m.factor) (power p m.exponents.e0) ∙ ap₂ ◌*◌ (total_constant m.factor) (total_power p m.exponents.e0)

  total_two : total two_in ≡ m.factor * total p ^ m.exponents.e0 * total q ^ m.exponents.e1
  total_two = total_product one_in (power q m.exponents.e1) ∙ ap₂ ◌*◌ total_one (total_power q m.exponents.e1)

  degree_one : (i : ℕ) → degree i one_in ≤ m.exponents.e0 * degree i p
  degree_one i = let a = degree_product_le i (constant m.factor) (power p m.exponents.e0) in let b = degree_constant i m.factor in let c = degree_power_le i p m.exponents.e0 in omega arith

  degree_two : (i : ℕ) → degree i two_in ≤ m.exponents.e0 * degree i p + m.exponents.e1 * degree i q
  degree_two i = let a = degree_product_le i one_in (power q m.exponents.e1) in let b = degree_one i in let c = degree_power_le i q m.exponents.e1 in omega arith

  module _ (tables : List Table) (three : HoldThree tables p q s) (t : List ℕ) where
    pub room_one : Holds t (constant m.factor) → PowerRoom t (cells_at tables 0) m.exponents.e0 (constant m.factor) p
    room_one holds = record {
      left = holds;
      right = three.first;
      degrees = λ i l. let d = fits.degrees i l in let z = degree_constant i m.factor in omega arith;
      room = λ j l.
          let r = part_room m.factor (total p) m.exponents.e0 j (total q ^ m.exponents.e1 * total s ^ m.exponents.e2) 2147483647 l fits.first
          (one-le-mul (pow_positive (total q) m.exponents.e1 fits.second) (pow_positive (total s) m.exponents.e2 fits.third)) fits.room in
          let e = ap (λ k. k * total p ^ j) (total_constant m.factor) in
          omega arith;
    }

    pub room_two : Holds t one_in → PowerRoom t (cells_at tables 1) m.exponents.e1 one_in q
    room_two holds = record {
      left = holds;
      right = three.second;
      degrees = λ i l. let d = fits.degrees i l in let z = degree_one i in omega arith;
      room = λ j l.
          let r = part_room (m.factor * total p ^ m.exponents.e0) (total q) m.exponents.e1 j (total s ^ m.exponents.e2) 2147483647 l fits.second
          (pow_positive (total s) m.exponents.e2 fits.third) (rw mul_assoc fits.room) in
          let e = ap (λ k. k * total q ^ j) total_one in
          omega arith;
    }

    pub room_three : Holds t two_in → PowerRoom t (cells_at tables 2) m.exponents.e2 two_in s
    room_three holds = record {
      left = holds;
      right = three.third;
      degrees = λ i l. let d = fits.degrees i l in let z = degree_two i in omega arith;
      room = λ j l.
          let whole : m.factor * total p ^ m.exponents.e0 * total q ^ m.exponents.e1 * (total s ^ m.exponents.e2 * 1) ≤ 2147483647 =
          rw mul-one (rw (mul_assoc (m.factor * total p ^ m.exponents.e0) (total q ^ m.exponents.e1) (total s ^ m.exponents.e2)) (rw (mul_assoc m.factor (total p ^ m.exponents.e0) (total q ^ m.exponents.e1 * total s ^ m.exponents.e2)) fits.room)) in
          let r = part_room (m.factor * total p ^ m.exponents.e0 * total q ^ m.exponents.e1) (total s) m.exponents.e2 j 1 2147483647 l fits.third (le_refl 1) whole in
          let e = ap (λ k. k * total s ^ j) total_two in
          omega arith;
    }

  -- the factors one after the other, in tables
  module _ (tables : List Table) (three : HoldThree tables p q s) (start : List ℕ) (held : Holds start (constant m.factor))
      (one : List ℕ) (times_one : Times start (cells_at tables 0) m.exponents.e0 one) where
    pub hold_one : Holds one one_in
    hold_one = times_one (constant m.factor) p (room_one tables three start held)

    module _ (two : List ℕ) (times_two : Times one (cells_at tables 1) m.exponents.e1 two) where
      pub hold_two : Holds two two_in
      hold_two = times_two one_in q (room_two tables three one hold_one)

      module _ (all : List ℕ) (times_three : Times two (cells_at tables 2) m.exponents.e2 all) where
        pub hold_three : Holds all three_in
        hold_three = times_three two_in s (room_three tables three two hold_two)

  -- the three factors together are the monomial with p, q and s put for its variables
  pub three_same : m.exponents.e3 ≡ 0 → Same three_in (compose_monomial m (p ∷ q ∷ s ∷ []))
  three_same none w =
      let P : Polynomial = power p m.exponents.e0 in
      let Q : Polynomial = power q m.exponents.e1 in
      let S : Polynomial = power s m.exponents.e2 in
      let c : Polynomial = constant m.factor in
      product_assoc (product c P) Q S w
      ∙ product_assoc c P (product Q S) w
      ∙ product_right c (product P (product Q S)) (product P (product Q (product S (constant 1))))
      (product_right P (product Q S) (product Q (product S (constant 1)))
      (product_right Q S (product S (constant 1)) (λ w. sym (product_one S w)))) w
      ∙ ap (λ n. weighed w (product c (product P (product Q (product S (power [] n)))))) (sym none)

  three_total : total three_in ≡ m.factor * (total p ^ m.exponents.e0 * (total q ^ m.exponents.e1 * total s ^ m.exponents.e2))
  three_total =
      total_product two_in (power s m.exponents.e2) ∙ ap₂ ◌*◌ total_two (total_power s m.exponents.e2)
      ∙ mul_assoc (m.factor * total p ^ m.exponents.e0) (total q ^ m.exponents.e1) (total s ^ m.exponents.e2)
      ∙ mul_assoc m.factor (total p ^ m.exponents.e0) (total q ^ m.exponents.e1 * total s ^ m.exponents.e2)

  pub three_room : (e : Exponents) → coefficient three_in e ≤ 2147483647
  three_room e = let h = coefficient_total three_in e in let t = three_total in let r = fits.room in omega arith
