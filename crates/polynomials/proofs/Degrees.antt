-- Degrees: what those of products, powers and compositions are, and so the degree of a term's polynomial.
use Rattle.std.proofs.Common.{◌≡◌, ℕ, zero, suc, ◌+◌, ◌*◌, ◌<◌, ◌≤◌, max, List, [], ◌∷◌, ◌++◌, map, length, get_or, sym, refl, ap, ◌∙◌, ap₂, inl, inr, suc-mul, zero-mul, arith}
use native.Mathlib.Nat.{le-max_left}
use Rattle.std.proofs.lemmas.Bool.{cases_lt}
use lib.ListN.{get_or-map}
use Rattle.terms.specs.Term.{Kind, one, many, Tree, var, node, nil, cons, Term, Terms, how_many}
use Rattle.terms.specs.Prefix.{Arities, WellSorted}
use Rattle.polynomials.specs.Polynomial.{Exponents, none, together, Monomial, Polynomial, exponent, greatest, dot, degree, constant, multiple, product, power, compose_monomial, compose}
use Rattle.polynomials.specs.Interpretation.{Interpretation, Numbers, unit, variable, shifted_variable, Proper, Polynomials, interpret, polynomial_of, shifted}

-- there is a monomial
abbrev pub NotEmpty : Polynomial → Type 0
NotEmpty [] = ⊥
NotEmpty (m ∷ p) = Unit {0}

pub filled_from : (p : Polynomial) → 1 ≤ length p → NotEmpty p
filled_from [] h = omega arith
filled_from (m ∷ p) h = tt

filled_product : (p q : Polynomial) → NotEmpty p → NotEmpty q → NotEmpty (product p q)
filled_product [] q h k = absurd h
filled_product (m ∷ p) [] h k = absurd k
filled_product (m ∷ p) (n ∷ q) h k = tt

filled_power : (p : Polynomial) (n : ℕ) → (1 ≤ n → NotEmpty p) → NotEmpty (power p n)
filled_power p zero h = tt
filled_power p (suc n) h = filled_product p (power p n) (h (omega arith)) (filled_power p n (λ k. h (omega arith)))

abbrev pub AllNotEmpty : List Polynomial → Type 0
AllNotEmpty [] = Unit {0}
AllNotEmpty (g ∷ gs) = NotEmpty g × AllNotEmpty gs

filled_at : (gs : List Polynomial) → AllNotEmpty gs → (i : ℕ) → i < length gs → NotEmpty (get_or gs i [])
filled_at [] h i k = absurd (omega arith)
filled_at (g ∷ gs) h zero k = h.0
filled_at (g ∷ gs) h (suc i) k = filled_at gs h.1 i (omega arith)

-- no exponent at the places from n on
abbrev pub Absent : ℕ → Polynomial → Type 0
Absent n p = (i : ℕ) → n ≤ i → degree i p ≡ 0

occurs_within : (m : Monomial) (p : Polynomial) (gs : List Polynomial) → Absent (length gs) (m ∷ p) → (i : ℕ) → 1 ≤ exponent i m.exponents → i < length gs
occurs_within m p gs absent i h =
    elim (cases_lt i (length gs)) [
      | inl k ↦ k
      | inr k ↦ let z = absent i k in let l = le-max_left (exponent i m.exponents) (degree i p) in absurd (omega arith)
    ]

filled_one : (m : Monomial) (gs : List Polynomial) → ((i : ℕ) → 1 ≤ exponent i m.exponents → NotEmpty (get_or gs i [])) → NotEmpty (compose_monomial m gs)
filled_one m gs h =
    filled_product (constant m.factor) _ tt
    (filled_product _ _ (at 0) (filled_product _ _ (at 1) (filled_product _ _ (at 2) (at 3))))
  where
    at : (i : ℕ) → NotEmpty (power (get_or gs i []) (exponent i m.exponents))
    at i = filled_power (get_or gs i []) (exponent i m.exponents) (h i)

filled_compose : (p : Polynomial) (gs : List Polynomial) → AllNotEmpty gs → NotEmpty p → Absent (length gs) p → NotEmpty (compose p gs)
filled_compose [] gs all h absent = absurd h
filled_compose (m ∷ p) gs all h absent =
    filled-++ (compose_monomial m gs) (compose p gs) (filled_one m gs (λ i k. filled_at gs all i (occurs_within m p gs absent i k)))
  where
    filled-++ : (p q : Polynomial) → NotEmpty p → NotEmpty (p ++ q)
    filled-++ [] q h = absurd h
    filled-++ (m ∷ p) q h = tt

-- the degree in the exponents that d adds up, as in one variable
module _ (d : Exponents → ℕ) (d_none : d none ≡ 0) (d_together : (a b : Exponents) → d (together a b) ≡ d a + d b) where
  greatest-++ : (p q : Polynomial) → greatest d (p ++ q) ≡ max (greatest d p) (greatest d q)
  greatest-++ [] q = omega arith
  greatest-++ (m ∷ p) q = let h = greatest-++ p q in omega arith

  greatest_multiple : (m : Monomial) (n : Monomial) (q : Polynomial) → greatest d (multiple m (n ∷ q)) ≡ d m.exponents + greatest d (n ∷ q)
  greatest_multiple m n [] = let h = d_together m.exponents n.exponents in omega arith
  greatest_multiple m n (k ∷ q) = let h = d_together m.exponents n.exponents in let i = greatest_multiple m k q in omega arith

  greatest_product : (p q : Polynomial) → NotEmpty p → NotEmpty q → greatest d (product p q) ≡ greatest d p + greatest d q
  greatest_product [] q h k = absurd h
  greatest_product (m ∷ p) [] h k = absurd k
  greatest_product (m ∷ []) (n ∷ q) h k =
      let a = greatest-++ (multiple m (n ∷ q)) [] in let b = greatest_multiple m n q in omega arith
  greatest_product (m ∷ l ∷ p) (n ∷ q) h k =
      let a = greatest-++ (multiple m (n ∷ q)) (product (l ∷ p) (n ∷ q)) in
      let b = greatest_multiple m n q in
      let c = greatest_product (l ∷ p) (n ∷ q) tt tt in
      omega arith

  greatest_constant : (k : ℕ) → greatest d (constant k) ≡ 0
  greatest_constant k = omega arith

  greatest_power : (p : Polynomial) (n : ℕ) → (1 ≤ n → NotEmpty p) → greatest d (power p n) ≡ n * greatest d p
  greatest_power p zero h = let z = zero-mul (greatest d p) in omega arith
  greatest_power p (suc n) h =
      let a = greatest_product p (power p n) (h (omega arith)) (filled_power p n (λ k. h (omega arith))) in
      let b = greatest_power p n (λ k. h (omega arith)) in
      let c = suc-mul n (greatest d p) in
      omega arith

  greatest_one : (m : Monomial) (gs : List Polynomial) → ((i : ℕ) → 1 ≤ exponent i m.exponents → NotEmpty (get_or gs i [])) →
      greatest d (compose_monomial m gs) ≡ dot (map (greatest d) gs) m.exponents
  greatest_one m gs h =
      let g : ℕ → Polynomial = λ i. power (get_or gs i []) (exponent i m.exponents) in
      let s : (i : ℕ) → NotEmpty (g i) = λ i. filled_power (get_or gs i []) (exponent i m.exponents) (h i) in
      let s23 = filled_product (g 2) (g 3) (s 2) (s 3) in
      let s123 = filled_product (g 1) (product (g 2) (g 3)) (s 1) s23 in
      let s0123 = filled_product (g 0) (product (g 1) (product (g 2) (g 3))) (s 0) s123 in
      let each : (i : ℕ) → greatest d (g i) ≡ exponent i m.exponents * get_or (map (greatest d) gs) i 0 =
      λ i. greatest_power (get_or gs i []) (exponent i m.exponents) (h i) ∙ ap (λ k. exponent i m.exponents * k) (sym (get_or-map (greatest d) gs i [])) in
      greatest_product (constant m.factor) (product (g 0) (product (g 1) (product (g 2) (g 3)))) tt s0123
      ∙ ap₂ ◌+◌ (greatest_constant m.factor)
      (greatest_product (g 0) (product (g 1) (product (g 2) (g 3))) (s 0) s123
      ∙ ap₂ ◌+◌ (each 0)
      (greatest_product (g 1) (product (g 2) (g 3)) (s 1) s23
      ∙ ap₂ ◌+◌ (each 1) (greatest_product (g 2) (g 3) (s 2) (s 3) ∙ ap₂ ◌+◌ (each 2) (each 3))))
      ∙ omega arith

  pub greatest_compose : (p : Polynomial) (gs : List Polynomial) → AllNotEmpty gs → Absent (length gs) p →
      greatest d (compose p gs) ≡ greatest (dot (map (greatest d) gs)) p
  greatest_compose [] gs all absent = refl
  greatest_compose (m ∷ p) gs all absent =
      let a = greatest-++ (compose_monomial m gs) (compose p gs) in
      let b = greatest_one m gs (λ i h. filled_at gs all i (occurs_within m p gs absent i h)) in
      let c = greatest_compose p gs all (λ i h. let k = absent i h in omega arith) in
      omega arith

-- the degree of a term's polynomial, worked out from those of its arguments
abbrev pub rise : {k : Kind} → Interpretation → (ℕ → ℕ) → Tree k → Numbers k
rise interpretation z (var x) = z x
rise interpretation z (node f ts) = greatest (dot (rise interpretation z ts)) (interpretation f)
rise interpretation z nil = []
rise interpretation z (cons t ts) = rise interpretation z t ∷ rise interpretation z ts

rise_agree : {k : Kind} (interpretation : Interpretation) (y z : ℕ → ℕ) → ((x : ℕ) → y x ≡ z x) → (t : Tree k) → rise interpretation y t ≡ rise interpretation z t
rise_agree interpretation y z h (var x) = h x
rise_agree interpretation y z h (node f ts) = ap (λ ns. greatest (dot ns) (interpretation f)) (rise_agree interpretation y z h ts)
rise_agree interpretation y z h nil = refl
rise_agree interpretation y z h (cons t ts) = ap₂ ◌∷◌ (rise_agree interpretation y z h t) (rise_agree interpretation y z h ts)

pub exponent_none : (i : ℕ) → exponent i none ≡ 0
exponent_none zero = refl
exponent_none (suc zero) = refl
exponent_none (suc (suc zero)) = refl
exponent_none (suc (suc (suc zero))) = refl
exponent_none (suc (suc (suc (suc i)))) = refl

pub exponent_together : (i : ℕ) (a b : Exponents) → exponent i (together a b) ≡ exponent i a + exponent i b
exponent_together zero a b = refl
exponent_together (suc zero) a b = refl
exponent_together (suc (suc zero)) a b = refl
exponent_together (suc (suc (suc zero))) a b = refl
exponent_together (suc (suc (suc (suc i)))) a b = refl

module _ (sig : Arities) (vars : ℕ) (interpretation : Interpretation) (proper : Proper sig interpretation) where
  abbrev AnyNotEmpty : (k : Kind) → Polynomials k → Type 0
  AnyNotEmpty one p = NotEmpty p
  AnyNotEmpty many ps = AllNotEmpty ps

  interpret_length : (base : ℕ → Polynomial) (ts : Terms) → length (interpret interpretation base ts) ≡ how_many ts
  interpret_length base nil = refl
  interpret_length base (cons t ts) = let h = interpret_length base ts in omega arith

  -- no variable of a symbol's polynomial but its arguments
  absent_at : (base : ℕ → Polynomial) (f : ℕ) (ts : Terms) → WellSorted sig vars (node f ts) → Absent (length (interpret interpretation base ts)) (interpretation f)
  absent_at base f ts w i h = let l = interpret_length base ts in (proper f (how_many ts) w.1).absent i (omega arith)

  pub filled_interpret : {k : Kind} (base : ℕ → Polynomial) → ((x : ℕ) → NotEmpty (base x)) → (t : Tree k) → WellSorted sig vars t → AnyNotEmpty k (interpret interpretation base t)
  filled_interpret base h (var x) w = h x
  filled_interpret base h (node f ts) w =
      filled_compose (interpretation f) (interpret interpretation base ts) (filled_interpret base h ts w.2)
      (filled_from (interpretation f) (proper f (how_many ts) w.1).not_empty) (absent_at base f ts w)
  filled_interpret base h nil w = tt
  filled_interpret base h (cons t ts) w = (filled_interpret base h t w.0, filled_interpret base h ts w.1)

  module _ (d : Exponents → ℕ) (d_none : d none ≡ 0) (d_together : (a b : Exponents) → d (together a b) ≡ d a + d b) where
    abbrev degrees : (k : Kind) → Polynomials k → Numbers k
    degrees one p = greatest d p
    degrees many ps = map (greatest d) ps

    pub greatest_interpret : {k : Kind} (base : ℕ → Polynomial) → ((x : ℕ) → NotEmpty (base x)) → (t : Tree k) → WellSorted sig vars t →
        degrees k (interpret interpretation base t) ≡ rise interpretation (λ x. greatest d (base x)) t
    greatest_interpret base h (var x) w = refl
    greatest_interpret base h (node f ts) w =
        greatest_compose d d_none d_together (interpretation f) (interpret interpretation base ts) (filled_interpret base h ts w.2) (absent_at base f ts w)
        ∙ ap (λ ns. greatest (dot ns) (interpretation f)) (greatest_interpret base h ts w.2)
    greatest_interpret base h nil w = refl
    greatest_interpret base h (cons t ts) w = ap₂ ◌∷◌ (greatest_interpret base h t w.0) (greatest_interpret base h ts w.1)

  module _ (i : ℕ) where
    -- the recursion for the degree in the variable i
    pub degree_polynomial : (t : Term) → WellSorted sig vars t → degree i (polynomial_of interpretation t) ≡ rise interpretation (λ x. exponent i (unit x)) t
    degree_polynomial t w =
        greatest_interpret (exponent i) (exponent_none i) (exponent_together i) variable (λ x. tt) t w
        ∙ rise_agree interpretation _ _ (λ x. omega arith) t

    -- the shift changes no degree
    pub degree_shifted : (t : Term) → WellSorted sig vars t → degree i (shifted interpretation t) ≡ degree i (polynomial_of interpretation t)
    degree_shifted t w =
        greatest_interpret (exponent i) (exponent_none i) (exponent_together i) shifted_variable (λ x. tt) t w
        ∙ rise_agree interpretation _ _ (λ x. let z = exponent_none i in omega arith) t
        ∙ sym (degree_polynomial t w)
