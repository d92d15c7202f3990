-- Tables of 256 coefficients, for polynomials with exponents up to 3.
use Rattle.std.specs.Prelude.{◌≡◌, ℕ, zero, suc, ◌+◌, ◌*◌, ◌/◌, ◌%◌, ◌^◌, ◌<◌, ◌≤◌, List, [], ◌∷◌, length, slice_index}
use Rattle.terms.specs.Term.{Term}
use Rattle.polynomials.specs.Interpretation.{Interpretation, evaluate, polynomial_of}
use Rattle.polynomials.specs.Polynomial.{Exponents, together, Polynomial, Monomial, coefficient, degree, total, multiple, product, compose}

-- the exponents e0, e1, e2, e3 have the cell e0 + 4 e1 + 16 e2 + 64 e3
abbrev pub cell : Exponents → ℕ
cell e = e.e0 + 4 * e.e1 + 16 * e.e2 + 64 * e.e3

abbrev pub exponents_at : ℕ → Exponents
exponents_at k = record { e0 = k % 4; e1 = k / 4 % 4; e2 = k / 16 % 4; e3 = k / 64 % 4 }

-- exponents up to 3
pub record Small (e : Exponents) : Type 0 where
  pub s0 : e.e0 ≤ 3
  pub s1 : e.e1 ≤ 3
  pub s2 : e.e2 ≤ 3
  pub s3 : e.e3 ≤ 3

-- the polynomial with the coefficient c k at the exponents of each cell k below n
abbrev pub of_cells : (ℕ → ℕ) → ℕ → Polynomial
of_cells c zero = []
of_cells c (suc n) = record { factor = c n; exponents = exponents_at n } ∷ of_cells c n

-- the polynomial that the cells of a table hold
abbrev pub held : List ℕ → Polynomial
held cells = of_cells (λ k. slice_index cells k) (length cells)

-- the table has 256 cells, and each has its coefficient of p
pub record Holds (cells : List ℕ) (p : Polynomial) : Type 0 where
  pub full : length cells ≡ 256
  pub each : (k : ℕ) → k < 256 → slice_index cells k ≡ coefficient p (exponents_at k)

-- no exponent of the product of two tables passes 3
abbrev pub NoCarry : List ℕ → List ℕ → Type 0
NoCarry a b = (i j : ℕ) → i < 256 → j < 256 → 1 ≤ slice_index a i → 1 ≤ slice_index b j → Small (together (exponents_at i) (exponents_at j))

-- the coefficient of the product of two tables at the cell k
unfoldable pub product_at : List ℕ → List ℕ → ℕ → ℕ
product_at a b k = coefficient (product (held a) (held b)) (exponents_at k)

-- the part in it of the cell i of the first table
unfoldable pub row_at : List ℕ → List ℕ → ℕ → ℕ → ℕ
row_at a b i k = coefficient (multiple (record { factor = slice_index a i; exponents = exponents_at i }) (held b)) (exponents_at k)

-- The tables a and b hold p and q, and there is room for p times the n-th power of q: no exponent passes 3, and no coefficient 2147483647.
pub record PowerRoom (a b : List ℕ) (n : ℕ) (p q : Polynomial) : Type 0 where
  pub left : Holds a p
  pub right : Holds b q
  pub degrees : (i : ℕ) → i < 4 → degree i p + n * degree i q ≤ 3
  pub room : (j : ℕ) → j ≤ n → total p * total q ^ j ≤ 2147483647

-- There is room for a monomial with p, q and s put for its variables.
pub record MonomialRoom (m : Monomial) (p q s : Polynomial) : Type 0 where
  pub degrees : (i : ℕ) → i < 4 → m.exponents.e0 * degree i p + (m.exponents.e1 * degree i q + m.exponents.e2 * degree i s) ≤ 3
  pub first : 1 ≤ m.exponents.e0 → 1 ≤ total p
  pub second : 1 ≤ m.exponents.e1 → 1 ≤ total q
  pub third : 1 ≤ m.exponents.e2 → 1 ≤ total s
  pub room : m.factor * (total p ^ m.exponents.e0 * (total q ^ m.exponents.e1 * total s ^ m.exponents.e2)) ≤ 2147483647

-- each monomial of a polynomial is such
abbrev pub Each : (Monomial → Type 0) → Polynomial → Type 0
Each Q [] = Unit {0}
Each Q (m ∷ p) = Q m × Each Q p

-- There is room for a polynomial with p, q and s put for its variables.
pub record ComposeRoom (f p q s : Polynomial) : Type 0 where
  pub monomials : Each (λ m. MonomialRoom m p q s) f
  pub room : total (compose f (p ∷ q ∷ s ∷ [])) ≤ 2147483647

-- The shifted polynomial of a term has room in a table: no exponent passes 3, and no coefficient 2147483647.
pub record TermRoom (interpretation : Interpretation) (t : Term) : Type 0 where
  pub degrees : (i : ℕ) → i < 4 → degree i (polynomial_of interpretation t) ≤ 3
  pub room : evaluate interpretation (λ x. 2) t ≤ 2147483647
