-- There is room for the arguments of a term, and for its symbol's polynomial, where there is room for the term.
use Rattle.std.proofs.Common.{◌≡◌, ℕ, zero, suc, ◌+◌, ◌*◌, ◌^◌, ◌<◌, ◌≤◌, max, ◌⊎◌, List, [], ◌∷◌, ◌++◌, map, length, get_or, sym, refl, ap, ◌∙◌, inl, inr, le_refl, mul-le-mul, one-mul, pow-suc, zero-mul, mul-one, arith}
use native.Mathlib.Nat.{one-le-pow, pow-zero, one-le-mul}
use lib.ListN.{get_or-map, length-map}
use Rattle.std.proofs.lemmas.Bool.{cases_eq, cases_lt}
use Rattle.std.proofs.lemmas.List.{get_or_past}
use Rattle.terms.specs.Term.{Kind, Tree, node, nil, cons, Term, Terms, how_many}
use Rattle.terms.specs.Prefix.{Arities, WellSorted, behind, head_term}
use Rattle.rewriting.proofs.Termination.{sorted_wider}
use Rattle.polynomials.specs.Polynomial.{Exponents, none, Polynomial, total, exponent, power_product, value, greatest, dot, degree, constant, product, power, compose}
use Rattle.polynomials.specs.Interpretation.{Interpretation, Positive, ProperFor, Proper, Numbers, evaluate, interpret, unit, shifted_variable, shifted}
use Rattle.polynomials.specs.Cells.{Each, MonomialRoom, ComposeRoom, TermRoom}
use Rattle.polynomials.proofs.Values.{weighed_agree, value_shifted}
use Rattle.polynomials.proofs.Degrees.{Absent, rise, degree_polynomial, degree_shifted, greatest_interpret, exponent_none, exponent_together}
use Rattle.polynomials.proofs.Walks.{number_at, numbers_length}
use Rattle.polynomials.proofs.Laws.{AllPositive, positive_at, absent_first, powers_positive, evaluate_least}

-- ── the total of the shifted polynomial ──

one_pow : (n : ℕ) → 1 ^ n ≡ 1
one_pow zero = pow-zero 1
one_pow (suc n) = pow-suc 1 n ∙ ap (λ k. k * 1) (one_pow n)

pub total_shifted : (interpretation : Interpretation) (sig : Arities) (t : Term) → WellSorted sig 4 t → total (shifted interpretation t) ≡ evaluate interpretation (λ x. 2) t
total_shifted interpretation sig t w =
    weighed_agree (λ e. 1) (power_product (1 ∷ 1 ∷ 1 ∷ 1 ∷ [])) (shifted interpretation t) (λ e. sym (simp one_pow))
    ∙ value_shifted interpretation sig t w (λ x. 1)

-- ── no argument is larger than the whole ──

dot_above : (ns : List ℕ) (e : Exponents) (j : ℕ) → exponent j e * get_or ns j 0 ≤ dot ns e
dot_above ns e zero = omega arith
dot_above ns e (suc zero) = omega arith
dot_above ns e (suc (suc zero)) = omega arith
dot_above ns e (suc (suc (suc zero))) = omega arith
dot_above ns e (suc (suc (suc (suc j)))) = let z = zero-mul (get_or ns (suc (suc (suc (suc j)))) 0) in omega arith

pub greatest_above : (ns : List ℕ) (j : ℕ) (p : Polynomial) → 1 ≤ degree j p → get_or ns j 0 ≤ greatest (dot ns) p
greatest_above ns j [] h = absurd (omega arith)
greatest_above ns j (m ∷ p) h =
    elim (cases_eq (exponent j m.exponents) 0) [
      | inl z ↦ let k = greatest_above ns j p (omega arith) in omega arith
      | inr nz ↦
          let d = dot_above ns m.exponents j in
          let l : 1 * get_or ns j 0 ≤ exponent j m.exponents * get_or ns j 0 = mul-le-mul (omega arith) (le_refl (get_or ns j 0)) in
          let o = one-mul (get_or ns j 0) in
          omega arith
    ]

product_above : (ns : List ℕ) (e : Exponents) → ((i : ℕ) → 1 ≤ get_or ns i 0 ^ exponent i e) → (j : ℕ) → get_or ns j 0 ^ exponent j e ≤ power_product ns e
product_above ns e pos j = at j (pos 0) (pos 1) (pos 2) (pos 3)
  where
    four_factors : (a b c d x : ℕ) → 1 ≤ a → 1 ≤ b → 1 ≤ c → 1 ≤ d → (x ≡ a) ⊎ ((x ≡ b) ⊎ ((x ≡ c) ⊎ (x ≡ d))) → x ≤ a * (b * (c * d))
    four_factors a b c d x pa pb pc pd which =
        let cd1 : c * 1 ≤ c * d = mul-le-mul (le_refl c) pd in
        let cd2 : 1 * d ≤ c * d = mul-le-mul pc (le_refl d) in
        let bcd1 : b * 1 ≤ b * (c * d) = mul-le-mul (le_refl b) (one-le-mul pc pd) in
        let bcd2 : 1 * (c * d) ≤ b * (c * d) = mul-le-mul pb (le_refl (c * d)) in
        let abcd1 : a * 1 ≤ a * (b * (c * d)) = mul-le-mul (le_refl a) (one-le-mul pb (one-le-mul pc pd)) in
        let abcd2 : 1 * (b * (c * d)) ≤ a * (b * (c * d)) = mul-le-mul pa (le_refl (b * (c * d))) in
        let oa = mul-one a in
        let ob = mul-one b in
        let oc = mul-one c in
        let od = one-mul d in
        let ocd = one-mul (c * d) in
        let obcd = one-mul (b * (c * d)) in
        elim which [
          | inl h ↦ omega arith
          | inr r ↦ elim r [
            | inl h ↦ omega arith
            | inr s ↦ elim s [ inl h ↦ omega arith | inr h ↦ omega arith ]
          ]
        ]

    at : (j : ℕ) → 1 ≤ get_or ns 0 0 ^ e.e0 → 1 ≤ get_or ns 1 0 ^ e.e1 → 1 ≤ get_or ns 2 0 ^ e.e2 → 1 ≤ get_or ns 3 0 ^ e.e3 → get_or ns j 0 ^ exponent j e ≤ power_product ns e
    at zero a b c d = four_factors _ _ _ _ _ a b c d (inl refl)
    at (suc zero) a b c d = four_factors _ _ _ _ _ a b c d (inr (inl refl))
    at (suc (suc zero)) a b c d = four_factors _ _ _ _ _ a b c d (inr (inr (inl refl)))
    at (suc (suc (suc zero))) a b c d = four_factors _ _ _ _ _ a b c d (inr (inr (inr refl)))
    at (suc (suc (suc (suc j)))) a b c d = let z = pow-zero (get_or ns (suc (suc (suc (suc j)))) 0) in let h : 1 ≤ power_product ns e = one-le-mul a (one-le-mul b (one-le-mul c d)) in omega arith

pub value_above : (ns : List ℕ) → AllPositive ns → (j : ℕ) → j < length ns → (p : Polynomial) → Positive p → Absent (length ns) p → 1 ≤ degree j p → get_or ns j 0 ≤ value ns p
value_above ns ps j inside [] factors absent h = absurd (omega arith)
value_above ns ps j inside (m ∷ p) factors absent h =
    elim (cases_eq (exponent j m.exponents) 0) [
      | inl z ↦ let k = value_above ns ps j inside p factors.1 (λ i l. (absent_first (exponent i) m p (absent i l)).1) (omega arith) in omega arith
      | inr nz ↦
          let pos = powers_positive ns ps m.exponents (λ i l. (absent_first (exponent i) m p (absent i l)).0) in
          let a = product_above ns m.exponents pos j in
          let b = power_above (get_or ns j 0) (exponent j m.exponents) (positive_at ns ps j inside) nz in
          let c : 1 * power_product ns m.exponents ≤ m.factor * power_product ns m.exponents = mul-le-mul factors.0 (le_refl (power_product ns m.exponents)) in
          let o = one-mul (power_product ns m.exponents) in
          omega arith
    ]
  where
    power_above : (x n : ℕ) → 1 ≤ x → (n ≡ 0 → ⊥) → x ≤ x ^ n
    power_above x zero pos ne = absurd (ne refl)
    power_above x (suc n) pos ne =
        let l : 1 * x ≤ x ^ n * x = mul-le-mul (one-le-pow n x pos) (le_refl x) in
        let o = one-mul x in
        let s = pow-suc x n in
        omega arith

-- ── three arguments ──

-- a list of at most three, element by element
pub three_of : {A : Type 0} (d : A) (l : List A) → length l ≤ 3 → (j : ℕ) → get_or (get_or l 0 d ∷ get_or l 1 d ∷ get_or l 2 d ∷ []) j d ≡ get_or l j d
three_of d l short zero = refl
three_of d l short (suc zero) = refl
three_of d l short (suc (suc zero)) = refl
three_of d l short (suc (suc (suc j))) = sym (get_or_past l (suc (suc (suc j))) d (omega arith))

greatest_agree : (ns ms : List ℕ) → ((j : ℕ) → get_or ns j 0 ≡ get_or ms j 0) → (p : Polynomial) → greatest (dot ns) p ≡ greatest (dot ms) p
greatest_agree ns ms h [] = refl
greatest_agree ns ms h (m ∷ p) =
    let e : Exponents = m.exponents in
    λ i. max (e.e0 * h 0 i + (e.e1 * h 1 i + (e.e2 * h 2 i + e.e3 * h 3 i))) (greatest_agree ns ms h p i)

value_agree : (ns ms : List ℕ) → ((j : ℕ) → get_or ns j 0 ≡ get_or ms j 0) → (p : Polynomial) → value ns p ≡ value ms p
value_agree ns ms h p = weighed_agree (power_product ns) (power_product ms) p (λ e. λ i. h 0 i ^ e.e0 * (h 1 i ^ e.e1 * (h 2 i ^ e.e2 * h 3 i ^ e.e3)))

pub compose_agree : (gs hs : List Polynomial) → ((j : ℕ) → get_or gs j [] ≡ get_or hs j []) → (p : Polynomial) → compose p gs ≡ compose p hs
compose_agree gs hs h [] = refl
compose_agree gs hs h (m ∷ p) =
    let e : Exponents = m.exponents in
    λ i. product (constant m.factor) (product (power (h 0 i) e.e0) (product (power (h 1 i) e.e1) (product (power (h 2 i) e.e2) (power (h 3 i) e.e3)))) ++ compose_agree gs hs h p i

module _ (p q s : Polynomial) where
  -- there is room for each monomial, where there is for the whole
  each_fits : (f : Polynomial) → ((i : ℕ) → i < 4 → greatest (dot (degree i p ∷ degree i q ∷ degree i s ∷ [])) f ≤ 3) →
      (1 ≤ degree 0 f → 1 ≤ total p) → (1 ≤ degree 1 f → 1 ≤ total q) → (1 ≤ degree 2 f → 1 ≤ total s) → degree 3 f ≡ 0 →
      value (total p ∷ total q ∷ total s ∷ []) f ≤ 2147483647 → Each (λ m. MonomialRoom m p q s) f
  each_fits [] degrees a b c none room = tt
  each_fits (m ∷ f) degrees a b c none room = (
    record {
      degrees = λ i l. let d = degrees i l in omega arith;
      first = λ h. a (omega arith);
      second = λ h. b (omega arith);
      third = λ h. c (omega arith);
      room =
          let z : m.exponents.e3 ≡ 0 = omega arith in
          let o : total s ^ m.exponents.e2 * 0 ^ m.exponents.e3 ≡ total s ^ m.exponents.e2 = ap (λ n. total s ^ m.exponents.e2 * 0 ^ n) z ∙ mul-one (total s ^ m.exponents.e2) in
          let w = ap (λ n. m.factor * (total p ^ m.exponents.e0 * (total q ^ m.exponents.e1 * n))) o in
          omega arith;
    },
    each_fits f (λ i l. let d = degrees i l in omega arith) (λ h. a (omega arith)) (λ h. b (omega arith)) (λ h. c (omega arith)) (omega arith) (omega arith),
  )

-- ── the arguments of a term ──

module _ (sig : Arities) (interpretation : Interpretation) (proper : Proper sig interpretation) where
  abbrev at_two : {k : Kind} → Tree k → Numbers k
  at_two t = evaluate interpretation (λ x. 2) t

  total_at : (ts : Terms) → WellSorted sig 4 ts → (j : ℕ) → total (get_or (interpret interpretation shifted_variable ts) j []) ≡ get_or (at_two ts) j 0
  total_at nil w j = refl
  total_at (cons t ts) w zero = total_shifted interpretation sig t w.0
  total_at (cons t ts) w (suc j) = total_at ts w.1 j

  pub polynomials_length : (ts : Terms) → length (interpret interpretation shifted_variable ts) ≡ how_many ts
  polynomials_length nil = refl
  polynomials_length (cons t ts) = let h = polynomials_length ts in omega arith

  pub polynomial_at : (ts : Terms) (j : ℕ) → j < how_many ts → get_or (interpret interpretation shifted_variable ts) j [] ≡ shifted interpretation (head_term (behind j ts))
  polynomial_at nil j h = absurd (omega arith)
  polynomial_at (cons t ts) zero h = refl
  polynomial_at (cons t ts) (suc j) h = polynomial_at ts j (omega arith)

  module _ (f : ℕ) (ts : Terms) (w : WellSorted sig 4 (node f ts)) (fits : TermRoom interpretation (node f ts)) where
    abbrev pub parts : List Polynomial
    parts = interpret interpretation shifted_variable ts

    proper_here : ProperFor (how_many ts) (interpretation f)
    proper_here = proper f (how_many ts) w.1

    numbers_long : length (at_two ts) ≡ how_many ts
    numbers_long = numbers_length at_two at_two refl (λ t ts. refl) ts

    positive_here : AllPositive (at_two ts)
    positive_here = evaluate_least interpretation sig proper (λ x. 2) (λ x. omega arith) ts (sorted_wider sig 4 8 (omega arith) ts w.2)

    -- there is room for each argument
    pub argument_room : (j : ℕ) → j < how_many ts → WellSorted sig 4 (head_term (behind j ts)) → TermRoom interpretation (head_term (behind j ts))
    argument_room j h sorted = record {
      degrees = λ i l.
          let d = fits.degrees i l in
          let a = degree_polynomial sig 4 interpretation proper i (head_term (behind j ts)) sorted in
          let b = degree_polynomial sig 4 interpretation proper i (node f ts) w in
          let z : ℕ → ℕ = λ x. exponent i (unit x) in
          let c = number_at (rise interpretation z) (rise interpretation z) refl (λ t ts. refl) ts j h in
          let g = greatest_above (rise interpretation z ts) j (interpretation f) (proper_here.present j h) in
          omega arith;
      room =
          let c = number_at at_two at_two refl (λ t ts. refl) ts j h in
          let n = numbers_long in
          let v = value_above (at_two ts) positive_here j (omega arith) (interpretation f) proper_here.factors (λ i l. proper_here.absent i (omega arith)) (proper_here.present j h) in
          let r = fits.room in
          omega arith;
    }

    -- and for the symbol's polynomial with those of the arguments
    degrees_here : (i : ℕ) → degree i (shifted interpretation (node f ts)) ≡ greatest (dot (map (degree i) parts)) (interpretation f)
    degrees_here i =
        greatest_interpret sig 4 interpretation proper (exponent i) (exponent_none i) (exponent_together i) shifted_variable (λ x. tt) (node f ts) w
        ∙ ap (λ ns. greatest (dot ns) (interpretation f)) (sym (greatest_interpret sig 4 interpretation proper (exponent i) (exponent_none i) (exponent_together i) shifted_variable (λ x. tt) ts w.2))

    module _ (few : how_many ts ≤ 3) where
      short : length parts ≤ 3
      short = let l = polynomials_length ts in omega arith

      pub parts_three : (j : ℕ) → get_or (get_or parts 0 [] ∷ get_or parts 1 [] ∷ get_or parts 2 [] ∷ []) j [] ≡ get_or parts j []
      parts_three = three_of [] parts short

      -- a number for each of the three
      numbers_three : (g : Polynomial → ℕ) (ns : List ℕ) → length ns ≤ 3 → ((j : ℕ) → g (get_or parts j []) ≡ get_or ns j 0) →
          (j : ℕ) → get_or (g (get_or parts 0 []) ∷ g (get_or parts 1 []) ∷ g (get_or parts 2 []) ∷ []) j 0 ≡ get_or ns j 0
      numbers_three g ns l h zero = h 0
      numbers_three g ns l h (suc zero) = h 1
      numbers_three g ns l h (suc (suc zero)) = h 2
      numbers_three g ns l h (suc (suc (suc j))) = sym (get_or_past ns (suc (suc (suc j))) 0 (omega arith))

      positive_if : (j : ℕ) → 1 ≤ degree j (interpretation f) → 1 ≤ total (get_or parts j [])
      positive_if j h =
          elim (cases_lt j (how_many ts)) [
            | inl l ↦ let n = numbers_long in let t = total_at ts w.2 j in let p = positive_at (at_two ts) positive_here j (omega arith) in omega arith
            | inr l ↦ let z = proper_here.absent j l in absurd (omega arith)
          ]

      pub compose_room : ComposeRoom (interpretation f) (get_or parts 0 []) (get_or parts 1 []) (get_or parts 2 [])
      compose_room = record {
        monomials =
            each_fits (get_or parts 0 []) (get_or parts 1 []) (get_or parts 2 []) (interpretation f)
            (λ i l.
            let a = degrees_here i in
            let b = degree_shifted sig 4 interpretation proper i (node f ts) w in
            let d = fits.degrees i l in
            let m = length-map parts (degree i) in
            let s = short in
            let e = greatest_agree (degree i (get_or parts 0 []) ∷ degree i (get_or parts 1 []) ∷ degree i (get_or parts 2 []) ∷ []) (map (degree i) parts)
            (numbers_three (degree i) (map (degree i) parts) (omega arith) (λ j. sym (get_or-map (degree i) parts j []))) (interpretation f) in
            omega arith)
            (positive_if 0) (positive_if 1) (positive_if 2) (proper_here.absent 3 few)
            (let n = numbers_long in
            let e = value_agree (total (get_or parts 0 []) ∷ total (get_or parts 1 []) ∷ total (get_or parts 2 []) ∷ []) (at_two ts) (numbers_three total (at_two ts) (omega arith) (total_at ts w.2)) (interpretation f) in
            let r = fits.room in
            omega arith);
        room =
            let e = ap total (compose_agree (get_or parts 0 [] ∷ get_or parts 1 [] ∷ get_or parts 2 [] ∷ []) parts parts_three (interpretation f)) in
            let t = total_shifted interpretation sig (node f ts) w in
            let r = fits.room in
            omega arith;
      }
