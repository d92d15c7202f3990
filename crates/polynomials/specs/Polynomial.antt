-- Formal polynomials in four variables, numbered from 0, with natural coefficients.
use Rattle.std.specs.Prelude.{ℕ, zero, suc, ◌+◌, ◌*◌, ◌^◌, max, Bool, cond, ◌&&◌, List, [], ◌∷◌, ◌++◌, ◌==◌, slice_index, slice_index_or}

-- the exponents of the four variables in a monomial
pub record Exponents : Type 0 where
  pub e0 : ℕ
  pub e1 : ℕ
  pub e2 : ℕ
  pub e3 : ℕ

abbrev pub none : Exponents
none = record { e0 = 0; e1 = 0; e2 = 0; e3 = 0 }

-- the exponents of a product of two monomials
abbrev pub together : Exponents → Exponents → Exponents
together a b = record { e0 = a.e0 + b.e0; e1 = a.e1 + b.e1; e2 = a.e2 + b.e2; e3 = a.e3 + b.e3 }

abbrev pub same : Exponents → Exponents → Bool
same a b = a.e0 == b.e0 && (a.e1 == b.e1 && (a.e2 == b.e2 && a.e3 == b.e3))

-- the exponent of the variable i
abbrev pub exponent : ℕ → Exponents → ℕ
exponent zero e = e.e0
exponent (suc zero) e = e.e1
exponent (suc (suc zero)) e = e.e2
exponent (suc (suc (suc zero))) e = e.e3
exponent (suc (suc (suc (suc i)))) e = 0

pub record Monomial : Type 0 where
  pub factor : ℕ
  pub exponents : Exponents

-- a sum of monomials, in which the same exponents may come again
abbrev pub Polynomial : Type 0
Polynomial = List Monomial

-- ── what polynomials are made of ──

abbrev pub monomial : ℕ → Exponents → Polynomial
monomial c e = record { factor = c; exponents = e } ∷ []

abbrev pub constant : ℕ → Polynomial
constant c = monomial c none

abbrev pub sum : Polynomial → Polynomial → Polynomial
sum p q = p ++ q

-- a monomial times a polynomial
abbrev pub multiple : Monomial → Polynomial → Polynomial
multiple m [] = []
multiple m (n ∷ q) = record { factor = m.factor * n.factor; exponents = together m.exponents n.exponents } ∷ multiple m q

abbrev pub product : Polynomial → Polynomial → Polynomial
product [] q = []
product (m ∷ p) q = sum (multiple m q) (product p q)

abbrev pub power : Polynomial → ℕ → Polynomial
power p zero = constant 1
power p (suc n) = product p (power p n)

-- a monomial with polynomials put for its variables, and so a polynomial
abbrev pub compose_monomial : Monomial → List Polynomial → Polynomial
compose_monomial m gs =
    product (constant m.factor)
    (product (power (slice_index_or gs 0 []) m.exponents.e0)
    (product (power (slice_index_or gs 1 []) m.exponents.e1)
    (product (power (slice_index_or gs 2 []) m.exponents.e2) (power (slice_index_or gs 3 []) m.exponents.e3))))

abbrev pub compose : Polynomial → List Polynomial → Polynomial
compose [] gs = []
compose (m ∷ p) gs = sum (compose_monomial m gs) (compose p gs)

-- ── what is asked of them ──

-- the sum over the monomials of their factors times a weight of their exponents
abbrev pub weighed : (Exponents → ℕ) → Polynomial → ℕ
weighed w [] = 0
weighed w (m ∷ p) = m.factor * w m.exponents + weighed w p

-- the coefficient at given exponents
abbrev pub coefficient : Polynomial → Exponents → ℕ
coefficient p e = weighed (λ a. cond (same a e) 1 0) p

abbrev pub constant_term : Polynomial → ℕ
constant_term p = coefficient p none

-- the sum of all coefficients
abbrev pub total : Polynomial → ℕ
total p = weighed (λ e. 1) p

-- the value of X0^e0 X1^e1 X2^e2 X3^e3, and of a polynomial, at the numbers of a list
abbrev pub power_product : List ℕ → Exponents → ℕ
power_product v e = slice_index v 0 ^ e.e0 * (slice_index v 1 ^ e.e1 * (slice_index v 2 ^ e.e2 * slice_index v 3 ^ e.e3))

abbrev pub value : List ℕ → Polynomial → ℕ
value v p = weighed (power_product v) p

-- the greatest of what d gives for the exponents of the monomials
abbrev pub greatest : (Exponents → ℕ) → Polynomial → ℕ
greatest d [] = 0
greatest d (m ∷ p) = max (d m.exponents) (greatest d p)

-- the degree of X0^e0 X1^e1 X2^e2 X3^e3, where the variables have the degrees of a list
abbrev pub dot : List ℕ → Exponents → ℕ
dot ns e = e.e0 * slice_index ns 0 + (e.e1 * slice_index ns 1 + (e.e2 * slice_index ns 2 + e.e3 * slice_index ns 3))

-- the degree in the variable i
abbrev pub degree : ℕ → Polynomial → ℕ
degree i p = greatest (exponent i) p
