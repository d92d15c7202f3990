-- The order that a proper interpretation gives is a reduction order.
use Rattle.std.proofs.Common.{◌≡◌, ℕ, zero, suc, ◌*◌, ◌^◌, ◌<◌, ◌≤◌, List, [], ◌∷◌, length, get_or, refl, ap, ◌∙◌, ap₂, inl, inr, le_refl, mul-le-mul, mul-lt-mul_of_pos_right, arith}
use mathlib.Core.WellFounded.{Acc}
use native.Mathlib.Nat.{one-le-mul, one-le-pow, pow-zero, mul-lt-mul_of_pos_left, pow-le-pow_left, pow-lt-pow_left, le-max_left, le-max_right}
use native.Mathlib.Decide.{dec_le, dec_lt}
use Rattle.std.proofs.lemmas.Bool.{cases_lt, cases_eq}
use Rattle.terms.specs.Term.{Kind, one, many, Tree, var, node, nil, cons, Term, Terms, how_many, Subst, sub}
use Rattle.terms.specs.Prefix.{Arities, WellSorted}
use Rattle.terms.specs.Place.{Context, hole, under, head, tail, plug}
use Rattle.rewriting.specs.Order.{OverOf, SubstOf, ReductionOrder}
use Rattle.rewriting.proofs.Sorted.{sorted_plug}
use Rattle.polynomials.specs.Polynomial.{Exponents, Monomial, Polynomial, power_product, value, exponent, greatest, degree}
use Rattle.polynomials.specs.Interpretation.{Interpretation, least_number, Positive, Proper, Numbers, evaluate, Over}
use Rattle.polynomials.proofs.Values.{evaluate_agree}
use Rattle.polynomials.proofs.Degrees.{Absent}

-- each of some numbers is at least 1
abbrev pub AllPositive : List ℕ → Type 0
AllPositive [] = Unit {0}
AllPositive (n ∷ ns) = (1 ≤ n) × AllPositive ns

-- the second numbers are the first but for one, which is greater
pub data Raised : List ℕ → List ℕ → Type 0 where
  here : {m n : ℕ} {ns : List ℕ} → m < n → Raised (m ∷ ns) (n ∷ ns)
  there : {n : ℕ} {ms ns : List ℕ} → Raised ms ns → Raised (n ∷ ms) (n ∷ ns)

pub positive_at : (ns : List ℕ) → AllPositive ns → (i : ℕ) → i < length ns → 1 ≤ get_or ns i 0
positive_at [] ps i h = omega arith
positive_at (n ∷ ns) ps zero h = ps.0
positive_at (n ∷ ns) ps (suc i) h = positive_at ns ps.1 i (omega arith)

-- an exponent in a polynomial is at most its degree
pub absent_first : (d : Exponents → ℕ) (m : Monomial) (p : Polynomial) → greatest d (m ∷ p) ≡ 0 → (d m.exponents ≡ 0) × (greatest d p ≡ 0)
absent_first d m p h = (omega (arith, le-max_left (d m.exponents) (greatest d p)), omega (arith, le-max_right (d m.exponents) (greatest d p)))

-- a power of an argument is at least 1, since its exponent is 0 where there is no such argument
pub powers_positive : (ns : List ℕ) → AllPositive ns → (e : Exponents) → ((i : ℕ) → length ns ≤ i → exponent i e ≡ 0) → (i : ℕ) → 1 ≤ get_or ns i 0 ^ exponent i e
powers_positive ns ps e absent i =
    elim (cases_lt i (length ns)) [
      | inl h ↦ one-le-pow (exponent i e) (get_or ns i 0) (positive_at ns ps i h)
      | inr h ↦ rw (absent i h) (rw pow-zero (omega arith))
    ]

product_positive : (ns : List ℕ) (e : Exponents) → ((i : ℕ) → 1 ≤ get_or ns i 0 ^ exponent i e) → 1 ≤ power_product ns e
product_positive ns e h = one-le-mul (h 0) (one-le-mul (h 1) (one-le-mul (h 2) (h 3)))

pub value_positive : (ns : List ℕ) → AllPositive ns → (p : Polynomial) → 1 ≤ length p → Positive p → Absent (length ns) p → 1 ≤ value ns p
value_positive ns ps [] some factors absent = omega arith
value_positive ns ps (m ∷ p) some factors absent =
    let first : (i : ℕ) → length ns ≤ i → exponent i m.exponents ≡ 0 = λ i h. (absent_first (exponent i) m p (absent i h)).0 in
    let h : 1 ≤ m.factor * power_product ns m.exponents =
    one-le-mul factors.0 (product_positive ns m.exponents (powers_positive ns ps m.exponents first)) in
    omega arith

-- how the numbers at each place compare
raised_le : {ms ns : List ℕ} → Raised ms ns → (i : ℕ) → get_or ms i 0 ≤ get_or ns i 0
raised_le (here h) zero = omega arith
raised_le (here h) (suc i) = le_refl _
raised_le (there r) zero = le_refl _
raised_le (there r) (suc i) = raised_le r i

raised_at : {ms ns : List ℕ} → Raised ms ns → (i : ℕ) × ((i < length ms) × (get_or ms i 0 < get_or ns i 0))
raised_at (here h) = (0, (omega arith, h))
raised_at (there r) = let k = raised_at r in (suc k.0, (omega (arith, k.1.0), k.1.1))

-- a product grows with each factor, and strictly if one does and none is 0
factor_left : {a a' b b' : ℕ} → a < a' → b ≤ b' → 1 ≤ b → a * b < a' * b'
factor_left {a} {a'} {b} {b'} h k pos = let l : a * b < a' * b = mul-lt-mul_of_pos_right h pos in let r : a' * b ≤ a' * b' = mul-le-mul (le_refl a') k in omega arith

factor_right : {a a' b b' : ℕ} → a ≤ a' → b < b' → 1 ≤ a → a * b < a' * b'
factor_right {a} {a'} {b} {b'} h k pos = let l : a * b < a * b' = mul-lt-mul_of_pos_left k pos in let r : a * b' ≤ a' * b' = mul-le-mul h (le_refl b') in omega arith

module _ (ms ns : List ℕ) (e : Exponents)
    (least : (i : ℕ) → 1 ≤ get_or ms i 0 ^ exponent i e) (le : (i : ℕ) → get_or ms i 0 ≤ get_or ns i 0) where
  grows : (i : ℕ) → get_or ms i 0 ^ exponent i e ≤ get_or ns i 0 ^ exponent i e
  grows i = pow-le-pow_left (le i) (exponent i e)

  -- strictly, where a greater number has an exponent
  product_rises : (i : ℕ) → get_or ms i 0 ^ exponent i e < get_or ns i 0 ^ exponent i e → power_product ms e < power_product ns e
  product_rises zero h = factor_left h (mul-le-mul (grows 1) (mul-le-mul (grows 2) (grows 3))) (one-le-mul (least 1) (one-le-mul (least 2) (least 3)))
  product_rises (suc zero) h =
      factor_right (grows 0) (factor_left h (mul-le-mul (grows 2) (grows 3)) (one-le-mul (least 2) (least 3))) (least 0)
  product_rises (suc (suc zero)) h = factor_right (grows 0) (factor_right (grows 1) (factor_left h (grows 3) (least 3)) (least 1)) (least 0)
  product_rises (suc (suc (suc zero))) h =
      factor_right (grows 0) (factor_right (grows 1) (factor_right (grows 2) h (least 2)) (least 1)) (least 0)
  product_rises (suc (suc (suc (suc i)))) h = let a = pow-zero (get_or ms (suc (suc (suc (suc i)))) 0) in let b = pow-zero (get_or ns (suc (suc (suc (suc i)))) 0) in omega arith

-- a polynomial in which an argument occurs rises with it
module _ (ms ns : List ℕ) (ps : AllPositive ms) (le : (i : ℕ) → get_or ms i 0 ≤ get_or ns i 0) where
  value_grows : (p : Polynomial) → value ms p ≤ value ns p
  value_grows [] = omega arith
  value_grows (m ∷ p) =
      let h : m.factor * power_product ms m.exponents ≤ m.factor * power_product ns m.exponents =
      mul-le-mul (le_refl m.factor) (mul-le-mul (grow m 0) (mul-le-mul (grow m 1) (mul-le-mul (grow m 2) (grow m 3)))) in
      let k = value_grows p in
      omega arith
    where
      grow : (m : Monomial) (i : ℕ) → get_or ms i 0 ^ exponent i m.exponents ≤ get_or ns i 0 ^ exponent i m.exponents
      grow m i = pow-le-pow_left (le i) (exponent i m.exponents)

  value_rises : (i : ℕ) → get_or ms i 0 < get_or ns i 0 → (p : Polynomial) → Positive p → Absent (length ms) p → 1 ≤ degree i p → value ms p < value ns p
  value_rises i lt [] factors absent present = omega arith
  value_rises i lt (m ∷ p) factors absent present =
      elim (cases_eq (exponent i m.exponents) 0) [
        | inl none ↦
            let later : 1 ≤ degree i p = omega arith in
            let k = value_rises i lt p factors.1 (λ j h. (absent_first (exponent j) m p (absent j h)).1) later in
            let h = value_grows (m ∷ []) in
            omega arith
        | inr some ↦
            let k = value_grows p in
            let least = powers_positive ms ps m.exponents (λ j h. (absent_first (exponent j) m p (absent j h)).0) in
            let r = product_rises ms ns m.exponents least le i (pow-lt-pow_left lt some) in
            let h : m.factor * power_product ms m.exponents < m.factor * power_product ns m.exponents = mul-lt-mul_of_pos_left r factors.0 in
            omega arith
      ]

module _ (interpretation : Interpretation) where
  evaluate_sub : {k : Kind} (α : ℕ → ℕ) (σ : Subst) (t : Tree k) → evaluate interpretation α (sub σ t) ≡ evaluate interpretation (λ x. evaluate interpretation α (σ x)) t
  evaluate_sub α σ (var x) = refl
  evaluate_sub α σ (node f ts) = ap (λ ns. value ns (interpretation f)) (evaluate_sub α σ ts)
  evaluate_sub α σ nil = refl
  evaluate_sub α σ (cons t ts) = ap₂ ◌∷◌ (evaluate_sub α σ t) (evaluate_sub α σ ts)

  evaluate_length : (α : ℕ → ℕ) (ts : Terms) → length (evaluate interpretation α ts) ≡ how_many ts
  evaluate_length α nil = refl
  evaluate_length α (cons t ts) = let h = evaluate_length α ts in omega arith

  -- no endless descent: the number with every variable at the least falls
  acc_below : (sig : Arities) (n : ℕ) (t : Term) → evaluate interpretation (λ x. least_number) t < n → Acc (λ u t. OverOf sig (Over interpretation) t u) t
  acc_below sig zero t h = absurd (omega arith)
  acc_below sig (suc n) t h =
      Acc.intro t (λ u over. acc_below sig n u (let k = over.is_over (λ x. least_number) (λ x. le_refl least_number) in omega arith))

  module _ (sig : Arities) (proper : Proper sig interpretation) where
    abbrev AtLeast : (k : Kind) → Numbers k → Type 0
    AtLeast one n = least_number ≤ n
    AtLeast many ns = AllPositive ns

    module _ (α : ℕ → ℕ) (least : (x : ℕ) → least_number ≤ α x) where
      absent_at : (f : ℕ) (ts : Terms) → WellSorted sig 8 (node f ts) → Absent (length (evaluate interpretation α ts)) (interpretation f)
      absent_at f ts w i h = let l = evaluate_length α ts in (proper f (how_many ts) w.1).absent i (omega arith)

      -- the number of a term is at least the least number
      pub evaluate_least : {k : Kind} (t : Tree k) → WellSorted sig 8 t → AtLeast k (evaluate interpretation α t)
      evaluate_least (var x) w = least x
      evaluate_least (node f ts) w =
          let p = proper f (how_many ts) w.1 in
          value_positive (evaluate interpretation α ts) (evaluate_least ts w.2) (interpretation f) p.not_empty p.factors (absent_at f ts w)
      evaluate_least nil w = tt
      evaluate_least (cons t ts) w = (evaluate_least t w.0, evaluate_least ts w.1)

      -- one number greater
      abbrev Greater : (k : Kind) → Numbers k → Numbers k → Type 0
      Greater one m n = m < n
      Greater many ms ns = Raised ms ns

      evaluate_plug : {k : Kind} (C : Context k) (s t : Term) → WellSorted sig 8 (plug C t) →
          evaluate interpretation α t < evaluate interpretation α s → Greater k (evaluate interpretation α (plug C t)) (evaluate interpretation α (plug C s))
      evaluate_plug hole s t w h = h
      evaluate_plug (under f C) s t w h =
          let r : Raised (evaluate interpretation α (plug C t)) (evaluate interpretation α (plug C s)) = evaluate_plug C s t w.2 h in
          let place = raised_at r in
          let l = evaluate_length α (plug C t) in
          let p = proper f (how_many (plug C t)) w.1 in
          value_rises (evaluate interpretation α (plug C t)) (evaluate interpretation α (plug C s)) (evaluate_least (plug C t) w.2) (raised_le r) place.0 place.1.1
          (interpretation f) p.factors (absent_at f (plug C t) w) (p.present place.0 (omega (arith, place.1.0)))
      evaluate_plug (head C ts) s t w h = here (evaluate_plug C s t w.0 h)
      evaluate_plug (tail u C) s t w h = there (evaluate_plug C s t w.1 h)

    over_plug : (C : Context one) (s t : Term) → OverOf sig (Over interpretation) s t → WellSorted sig 8 (plug C s) → Over interpretation (plug C s) (plug C t)
    over_plug C s t over w α least = evaluate_plug α least C s t (sorted_plug sig 8 C s t w over.to) (over.is_over α least)

    -- the numbers of the terms that are put for the eight variables, and the least number for any other
    abbrev chosen : (ℕ → ℕ) → Subst → (x : ℕ) → Dec (128 ≤ x) → Dec (x < 136) → ℕ
    chosen α σ x (yes l) (yes r) = evaluate interpretation α (σ x)
    chosen α σ x (yes l) (no r) = least_number
    chosen α σ x (no l) r = least_number

    abbrev after_sub : (ℕ → ℕ) → Subst → ℕ → ℕ
    after_sub α σ x = chosen α σ x (dec_le 128 x) (dec_lt x 136)

    module _ (α : ℕ → ℕ) (least : (x : ℕ) → least_number ≤ α x) (σ : Subst) (sorted : SubstOf sig σ) where
      after_least : (x : ℕ) → least_number ≤ after_sub α σ x
      after_least x = go (dec_le 128 x) (dec_lt x 136)
        where
          go : (l : Dec (128 ≤ x)) (r : Dec (x < 136)) → least_number ≤ chosen α σ x l r
          go (yes l) (yes r) = evaluate_least α least (σ x) (sorted x l r)
          go (yes l) (no r) = le_refl least_number
          go (no l) r = le_refl least_number

      after_is : (x : ℕ) → 128 ≤ x → x < 136 → evaluate interpretation α (σ x) ≡ after_sub α σ x
      after_is x l r = go (dec_le 128 x) (dec_lt x 136)
        where
          go : (p : Dec (128 ≤ x)) (q : Dec (x < 136)) → evaluate interpretation α (σ x) ≡ chosen α σ x p q
          go (yes p) (yes q) = refl
          go (yes p) (no q) = absurd (q r)
          go (no p) q = absurd (p l)

      evaluate_after : (t : Term) → WellSorted sig 8 t → evaluate interpretation α (sub σ t) ≡ evaluate interpretation (after_sub α σ) t
      evaluate_after t w = evaluate_sub α σ t ∙ evaluate_agree interpretation sig 8 _ (after_sub α σ) t w after_is

    over_sub : (σ : Subst) → SubstOf sig σ → (s t : Term) → OverOf sig (Over interpretation) s t → Over interpretation (sub σ s) (sub σ t)
    over_sub σ sorted s t over α least =
        let h = over.is_over (after_sub α σ) (after_least α least σ sorted) in
        let a = evaluate_after α least σ sorted s over.from in
        let b = evaluate_after α least σ sorted t over.to in
        omega arith

    pub reduction_order : ReductionOrder sig (Over interpretation)
    reduction_order = record {
      contexts = over_plug;
      substitutions = over_sub;
      no_descent = λ t. acc_below sig (suc (evaluate interpretation (λ x. least_number) t)) t (omega arith);
    }
