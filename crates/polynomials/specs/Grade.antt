-- How two terms compare by the coefficients of their polynomials.
use Rattle.std.specs.Prelude.{◌≡◌, ℕ, Bool, false, cond, ◌||◌, List, [], ◌∷◌, Some, None, Option, nat_lt}
use Rattle.terms.specs.Term.{Term}
use Rattle.terms.specs.Prefix.{Arities, IsTerm, Reads}
use Rattle.polynomials.specs.Polynomial.{Polynomial, coefficient, constant_term, value, degree}
use Rattle.polynomials.specs.Interpretation.{Interpretation, polynomial_of, shifted}

-- some variable has an exponent above 3
abbrev pub steep : Polynomial → Bool
steep p = nat_lt 3 (degree 0 p) || (nat_lt 3 (degree 1 p) || (nat_lt 3 (degree 2 p) || nat_lt 3 (degree 3 p)))

-- the value with each variable at 2 is above 2147483647
abbrev pub large : Polynomial → Bool
large p = nat_lt 2147483647 (value (2 ∷ 2 ∷ 2 ∷ 2 ∷ []) p)

-- p - q has a negative coefficient at the exponents of some monomial of a list
abbrev pub negative_at : Polynomial → Polynomial → Polynomial → Bool
negative_at p q [] = false
negative_at p q (m ∷ ms) = nat_lt (coefficient p m.exponents) (coefficient q m.exponents) || negative_at p q ms

-- p - q has a negative coefficient; it can stand only at exponents of q
abbrev pub any_negative : Polynomial → Polynomial → Bool
any_negative p q = negative_at p q q

-- p - q has a positive constant
abbrev pub positive_constant : Polynomial → Polynomial → Bool
positive_constant p q = nat_lt (constant_term q) (constant_term p)

-- 3: an exponent above 3; 2: too large a value; 0: s is seen to be over t; 1: it is not
abbrev pub grade : Interpretation → Term → Term → ℕ
grade interpretation s t =
    let p : Polynomial = polynomial_of interpretation s in
    let q : Polynomial = polynomial_of interpretation t in
    let p' : Polynomial = shifted interpretation s in
    let q' : Polynomial = shifted interpretation t in
    cond (steep p || steep q) 3 (cond (large p || large q) 2 (cond (any_negative p' q') 1 (cond (positive_constant p' q') 0 1)))

-- The bytes are two terms with the first four variables, and have this grade; or None, if they are not.
abbrev pub Graded : Arities → Interpretation → List ℕ → List ℕ → Option ℕ → Type 0
Graded sig interpretation left right (Some n) =
    (s t : Term) × Reads sig 4 left s × Reads sig 4 right t × (n ≡ grade interpretation s t)
Graded sig interpretation left right None = IsTerm sig 4 left → IsTerm sig 4 right → ⊥
