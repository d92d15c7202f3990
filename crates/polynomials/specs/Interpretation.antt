-- Polynomial interpretations of terms, and the order that they give.
use Rattle.std.specs.Prelude.{◌≡◌, ℕ, ◌<◌, ◌≤◌, cond, List, [], ◌∷◌, length, Some, ◌==◌}
use Rattle.terms.specs.Term.{Kind, one, many, Tree, var, node, nil, cons, Term, Terms}
use Rattle.terms.specs.Prefix.{Arities, WellSorted}
use Rattle.polynomials.specs.Polynomial.{Exponents, Polynomial, value, degree, monomial, constant, sum, compose}

-- an interpretation: the polynomial of each symbol, whose variables 0, 1 and 2 are the arguments
abbrev pub Interpretation : Type 0
Interpretation = ℕ → Polynomial

-- the least number that is put for a variable
abbrev pub least_number : ℕ
least_number = 1

-- no factor is 0
abbrev pub Positive : Polynomial → Type 0
Positive [] = Unit {0}
Positive (m ∷ p) = (1 ≤ m.factor) × Positive p

-- What is asked of the polynomial of a symbol with n arguments: it is not empty, has no factor 0, has each argument, and no other variable.
pub record ProperFor (n : ℕ) (p : Polynomial) : Type 0 where
  pub not_empty : 1 ≤ length p
  pub factors : Positive p
  pub present : (i : ℕ) → i < n → 1 ≤ degree i p
  pub absent : (i : ℕ) → n ≤ i → degree i p ≡ 0

-- a proper interpretation of a signature
abbrev pub Proper : Arities → Interpretation → Type 0
Proper sig interpretation = (f n : ℕ) → sig f ≡ Some n → ProperFor n (interpretation f)

-- a symbol of a proper interpretation, with its polynomial p, and its arguments
pub record Application (sig : Arities) (interpretation : Interpretation) (f : ℕ) (ts : Terms) (p : Polynomial) : Type 0 where
  pub proper : Proper sig interpretation
  pub sorted : WellSorted sig 4 (node f ts)
  pub polynomial : p ≡ interpretation f

-- P holds of a term, of its arguments, of theirs, and so on
abbrev pub Throughout : {k : Kind} → (Term → Type 0) → Tree k → Type 0
Throughout P (var x) = P (var x)
Throughout P (node f ts) = P (node f ts) × Throughout P ts
Throughout P nil = Unit {0}
Throughout P (cons t ts) = Throughout P t × Throughout P ts

-- ── numbers ──

-- a number for a term, and numbers for a list of terms
abbrev pub Numbers : Kind → Type 0
Numbers one = ℕ
Numbers many = List ℕ

-- the number of a term, where each variable x has the number α x
abbrev pub evaluate : {k : Kind} → Interpretation → (ℕ → ℕ) → Tree k → Numbers k
evaluate interpretation α (var x) = α x
evaluate interpretation α (node f ts) = value (evaluate interpretation α ts) (interpretation f)
evaluate interpretation α nil = []
evaluate interpretation α (cons t ts) = evaluate interpretation α t ∷ evaluate interpretation α ts

-- s is over t: its number is greater, whatever numbers from the least on are chosen for the variables
abbrev pub Over : Interpretation → Term → Term → Type 0
Over interpretation s t = (α : ℕ → ℕ) → ((x : ℕ) → least_number ≤ α x) → evaluate interpretation α t < evaluate interpretation α s

-- ── polynomials ──

abbrev pub Polynomials : Kind → Type 0
Polynomials one = Polynomial
Polynomials many = List Polynomial

-- the polynomial of a term, where each variable x has the polynomial `base x`
abbrev pub interpret : {k : Kind} → Interpretation → (ℕ → Polynomial) → Tree k → Polynomials k
interpret interpretation base (var x) = base x
interpret interpretation base (node f ts) = compose (interpretation f) (interpret interpretation base ts)
interpret interpretation base nil = []
interpret interpretation base (cons t ts) = interpret interpretation base t ∷ interpret interpretation base ts

-- the four variables from 128 on, as the variables 0 to 3 of polynomials
abbrev pub unit : ℕ → Exponents
unit x = record { e0 = cond (x == 128) 1 0; e1 = cond (x == 129) 1 0; e2 = cond (x == 130) 1 0; e3 = cond (x == 131) 1 0 }

abbrev pub variable : ℕ → Polynomial
variable x = monomial 1 (unit x)

abbrev pub shifted_variable : ℕ → Polynomial
shifted_variable x = sum (variable x) (constant least_number)

-- the polynomial of a term
abbrev pub polynomial_of : Interpretation → Term → Polynomial
polynomial_of interpretation t = interpret interpretation variable t

-- the shifted polynomial of a term: with Y + 1 for each variable X, so that Y may be any number
abbrev pub shifted : Interpretation → Term → Polynomial
shifted interpretation t = interpret interpretation shifted_variable t
