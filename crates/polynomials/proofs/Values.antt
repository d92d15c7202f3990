-- The values of sums, products, powers and compositions of polynomials, and so of the polynomial of a term.
use Rattle.std.proofs.Common.{◌≡◌, ℕ, zero, suc, ◌+◌, ◌*◌, ◌^◌, ◌<◌, ◌≤◌, List, [], ◌∷◌, ◌++◌, map, get_or, sym, refl, ap, ◌∙◌, ap₂, inl, inr, add-zero, add_assoc, mul_assoc, add-mul, one-mul, pow-suc, mul-zero, zero-add, zero-mul, mul-one, mul-add, mul_left_comm, arith, pow-add}
use native.Mathlib.Nat.{pow-zero, pow-succ'}
use Rattle.std.proofs.lemmas.Bool.{cases_eq}
use lib.ListN.{get_or-map}
use Rattle.terms.specs.Term.{Kind, one, many, Tree, var, node, nil, cons, Term}
use Rattle.terms.specs.Prefix.{Arities, WellSorted}
use Rattle.polynomials.specs.Polynomial.{Exponents, none, together, Monomial, Polynomial, weighed, power_product, value, constant, multiple, product, power, compose_monomial, compose}
use Rattle.polynomials.specs.Interpretation.{Interpretation, least_number, Numbers, evaluate, Polynomials, interpret, variable, shifted_variable, polynomial_of, shifted}

pub weighed-++ : (w : Exponents → ℕ) (p q : Polynomial) → weighed w (p ++ q) ≡ weighed w p + weighed w q
weighed-++ w [] q = sym (zero-add (weighed w q))
weighed-++ w (m ∷ p) q = rw (weighed-++ w p q) (sym (add_assoc (m.factor * w m.exponents) (weighed w p) (weighed w q)))

pub weighed_multiple : (w : Exponents → ℕ) (m : Monomial) (q : Polynomial) →
    weighed w (multiple m q) ≡ m.factor * weighed (λ b. w (together m.exponents b)) q
weighed_multiple w m [] = sym (mul-zero m.factor)
weighed_multiple w m (n ∷ q) = rw (weighed_multiple w m q, mul-add, mul_assoc)

-- a product is a sum over both its factors
pub weighed_product : (w : Exponents → ℕ) (p q : Polynomial) →
    weighed w (product p q) ≡ weighed (λ a. weighed (λ b. w (together a b)) q) p
weighed_product w [] q = refl
weighed_product w (m ∷ p) q = rw (weighed-++, weighed_multiple, weighed_product w p q)

-- weights may be changed where they agree, and a factor drawn out
pub weighed_agree : (w u : Exponents → ℕ) (p : Polynomial) → ((e : Exponents) → w e ≡ u e) → weighed w p ≡ weighed u p
weighed_agree w u [] h = refl
weighed_agree w u (m ∷ p) h = ap₂ ◌+◌ (ap (λ k. m.factor * k) (h m.exponents)) (weighed_agree w u p h)

pub weighed_scale : (k : ℕ) (w : Exponents → ℕ) (p : Polynomial) → weighed (λ e. k * w e) p ≡ k * weighed w p
weighed_scale k w [] = sym (mul-zero k)
weighed_scale k w (m ∷ p) = rw (weighed_scale k w p, mul-add, mul_left_comm)

-- evaluation keeps products
pairwise : (a a' b b' c c' d d' : ℕ) → (a * a') * ((b * b') * ((c * c') * (d * d'))) ≡ (a * (b * (c * d))) * (a' * (b' * (c' * d')))
pairwise a a' b b' c c' d d' = simp (mul_assoc, mul_left_comm)

together_power : (v : List ℕ) (a b : Exponents) → power_product v (together a b) ≡ power_product v a * power_product v b
together_power v a b = simp pow-add (pairwise _ _ _ _ _ _ _ _)

pub value_product : (v : List ℕ) (p q : Polynomial) → value v (product p q) ≡ value v p * value v q
value_product v [] q = sym (zero-mul (value v q))
value_product v (m ∷ p) q =
    weighed-++ _ (multiple m q) (product p q)
    ∙ ap₂ ◌+◌
    (weighed_multiple _ m q
    ∙ ap (λ k. m.factor * k) (weighed_agree _ _ q (together_power v m.exponents) ∙ weighed_scale (power_product v m.exponents) (power_product v) q)
    ∙ sym (mul_assoc m.factor (power_product v m.exponents) (value v q)))
    (value_product v p q)
    ∙ sym (add-mul (m.factor * power_product v m.exponents) (value v p) (value v q))

pub none_power : (v : List ℕ) → power_product v none ≡ 1
none_power v = simp pow-zero

pub value_constant : (v : List ℕ) (c : ℕ) → value v (constant c) ≡ c
value_constant v c = rw (none_power, add-zero) (mul-one c)

pub value_power : (v : List ℕ) (p : Polynomial) (n : ℕ) → value v (power p n) ≡ value v p ^ n
value_power v p zero = value_constant v 1 ∙ sym (pow-zero (value v p))
value_power v p (suc n) = value_product v p (power p n) ∙ ap (λ k. value v p * k) (value_power v p n) ∙ sym (pow-succ' (value v p) n)

-- and compositions
value_power_at : (v : List ℕ) (gs : List Polynomial) (i n : ℕ) → value v (power (get_or gs i []) n) ≡ get_or (map (value v) gs) i 0 ^ n
value_power_at v gs i n = value_power v (get_or gs i []) n ∙ ap (λ k. k ^ n) (sym (get_or-map (value v) gs i []))

value_five : (v : List ℕ) (k : ℕ) (p q r s : Polynomial) →
    value v (product (constant k) (product p (product q (product r s)))) ≡ k * (value v p * (value v q * (value v r * value v s)))
value_five v k p q r s = value_product v (constant k) _ ∙ ap₂ ◌*◌ (value_constant v k) (simp value_product)

value_monomial : (v : List ℕ) (m : Monomial) (gs : List Polynomial) →
    value v (compose_monomial m gs) ≡ m.factor * power_product (map (value v) gs) m.exponents
value_monomial v m gs =
    value_five v m.factor _ _ _ _
    ∙ ap (λ k. m.factor * k)
    (ap₂ ◌*◌ (value_power_at v gs 0 m.exponents.e0)
    (ap₂ ◌*◌ (value_power_at v gs 1 m.exponents.e1)
    (ap₂ ◌*◌ (value_power_at v gs 2 m.exponents.e2) (value_power_at v gs 3 m.exponents.e3))))

pub value_compose : (v : List ℕ) (p : Polynomial) (gs : List Polynomial) → value v (compose p gs) ≡ value (map (value v) gs) p
value_compose v [] gs = refl
value_compose v (m ∷ p) gs = weighed-++ _ (compose_monomial m gs) (compose p gs) ∙ ap₂ ◌+◌ (value_monomial v m gs) (value_compose v p gs)

-- the polynomial of a term has the value that the term has, where each variable has the value of its polynomial
abbrev pub values : (k : Kind) → List ℕ → Polynomials k → Numbers k
values one v p = value v p
values many v ps = map (value v) ps

module _ (interpretation : Interpretation) where
  pub value_interpret : {k : Kind} (v : List ℕ) (base : ℕ → Polynomial) (t : Tree k) →
      values k v (interpret interpretation base t) ≡ evaluate interpretation (λ x. value v (base x)) t
  value_interpret v base (var x) = refl
  value_interpret v base (node f ts) =
      value_compose v (interpretation f) (interpret interpretation base ts) ∙ ap (λ ns. value ns (interpretation f)) (value_interpret v base ts)
  value_interpret v base nil = refl
  value_interpret v base (cons t ts) = ap₂ ◌∷◌ (value_interpret v base t) (value_interpret v base ts)

  -- only the variables that occur matter
  pub evaluate_agree : {k : Kind} (sig : Arities) (vars : ℕ) (α β : ℕ → ℕ) (t : Tree k) → WellSorted sig vars t →
      ((x : ℕ) → 128 ≤ x → x < 128 + vars → α x ≡ β x) → evaluate interpretation α t ≡ evaluate interpretation β t
  evaluate_agree sig vars α β (var x) w h = h x w.0 w.1
  evaluate_agree sig vars α β (node f ts) w h = ap (λ ns. value ns (interpretation f)) (evaluate_agree sig vars α β ts w.2 h)
  evaluate_agree sig vars α β nil w h = refl
  evaluate_agree sig vars α β (cons t ts) w h = ap₂ ◌∷◌ (evaluate_agree sig vars α β t w.0 h) (evaluate_agree sig vars α β ts w.1 h)

-- the numbers of the four variables
abbrev pub four : (ℕ → ℕ) → List ℕ
four α = α 128 ∷ α 129 ∷ α 130 ∷ α 131 ∷ []

pow_one : (n : ℕ) → n ^ 1 ≡ n
pow_one n = pow-suc n 0 ∙ rw pow-zero (one-mul n)

pub each_of_four : (P : ℕ → Type 0) → P 128 → P 129 → P 130 → P 131 → (x : ℕ) → 128 ≤ x → x < 128 + 4 → P x
each_of_four P a b c d x h k =
    elim (cases_eq x 128) [
      | inl e ↦ rw e a
      | inr n ↦ elim (cases_eq x 129) [
        | inl e ↦ rw e b
        | inr n' ↦ elim (cases_eq x 130) [
          | inl e ↦ rw e c
          | inr n'' ↦ let e : x ≡ 131 = omega arith in rw e d
        ]
      ]
    ]

variable_is : (α : ℕ → ℕ) (x : ℕ) → 128 ≤ x → x < 128 + 4 → value (four α) (variable x) ≡ α x
variable_is α = each_of_four (λ x. value (four α) (variable x) ≡ α x)
    (simp (pow-zero, pow_one, one-mul, mul-one, add-zero))
    (simp (pow-zero, pow_one, one-mul, mul-one, add-zero))
    (simp (pow-zero, pow_one, one-mul, mul-one, add-zero))
    (simp (pow-zero, pow_one, one-mul, add-zero))

shifted_is : (α : ℕ → ℕ) (x : ℕ) → 128 ≤ x → x < 128 + 4 → value (four α) (shifted_variable x) ≡ α x + least_number
shifted_is α x h k = weighed-++ (power_product (four α)) (variable x) (constant least_number) ∙ ap₂ ◌+◌ (variable_is α x h k) (value_constant (four α) least_number)

module _ (interpretation : Interpretation) (sig : Arities) (t : Term) (sorted : WellSorted sig 4 t) (α : ℕ → ℕ) where
  pub value_polynomial : value (four α) (polynomial_of interpretation t) ≡ evaluate interpretation α t
  value_polynomial = value_interpret interpretation (four α) variable t ∙ evaluate_agree interpretation sig 4 _ _ t sorted (variable_is α)

  pub value_shifted : value (four α) (shifted interpretation t) ≡ evaluate interpretation (λ x. α x + least_number) t
  value_shifted = value_interpret interpretation (four α) shifted_variable t ∙ evaluate_agree interpretation sig 4 _ _ t sorted (shifted_is α)
