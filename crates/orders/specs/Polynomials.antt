-- The polynomials of a book's symbols.
use Rattle.std.specs.Prelude.{◌≡◌, ℕ, ◌+◌, ◌-◌, ◌<◌, ◌≤◌, cond, ◌⊎◌, List, [], ◌∷◌, ◌++◌, length, take, drop, Some, None, Option, ◌==◌}
use Rattle.std.specs.Option.{unwrap_or}
use Rattle.terms.specs.Question.{Question}
use Rattle.book.specs.Format.{BookField, value_length}
use Rattle.book.specs.Meaning.{code, Located, fields_of}
use Rattle.book.specs.Places.{place_of}
use Rattle.book.specs.declared.places.Places.{Places}
use Rattle.polynomials.specs.Polynomial.{Exponents, exponent, Monomial, Polynomial, degree}
use Rattle.polynomials.specs.Interpretation.{Interpretation}
use Rattle.polynomials.specs.Coding.{polynomial_from}
use Rattle.orders.specs.Figures.{FirstFor}
use Rattle.orders.specs.FieldQuestions.{Asked}

-- the monomials of a field, in their bytes: they stand behind the code
abbrev pub monomials_in : BookField → List ℕ
monomials_in f = drop 1 f.value

-- the monomials of a code by the first field for it, and none if there is none
abbrev pub monomials_by : List Located → ℕ → List ℕ
monomials_by [] c = []
monomials_by (l ∷ ls) c = cond (code l.field == c) (monomials_in l.field) (monomials_by ls c)

-- the interpretation that the bytes of a book mean: its fields with the tag 3
abbrev pub interpretation_of : List ℕ → Interpretation
interpretation_of bs c = polynomial_from (monomials_by (fields_of bs 3) c)

-- ── what is asked of such a field ──

-- one of the monomials has these exponents
abbrev pub HasExponents : Exponents → Polynomial → Type 0
HasExponents e [] = ⊥
HasExponents e (m ∷ p) = (m.exponents ≡ e) ⊎ HasExponents e p

-- a monomial of a symbol with n arguments, behind the monomials `before`
pub record MonomialFits (n : ℕ) (before : Polynomial) (m : Monomial) : Type 0 where
  pub least : 1 ≤ m.factor
  pub most : m.factor ≤ 65535
  pub small : (i : ℕ) → exponent i m.exponents ≤ 3
  pub absent : (i : ℕ) → n ≤ i → exponent i m.exponents ≡ 0
  pub new : HasExponents m.exponents before → ⊥

-- each monomial fits, behind those before it
abbrev pub MonomialsFit : ℕ → Polynomial → Polynomial → Type 0
MonomialsFit n before [] = Unit {0}
MonomialsFit n before (m ∷ p) = MonomialFits n before m × MonomialsFit n (before ++ m ∷ []) p

-- each of the n arguments has an exponent of at least 1 in some monomial
abbrev pub HasArguments : ℕ → Polynomial → Type 0
HasArguments n p = (i : ℕ) → i < n → 1 ≤ degree i p

-- 9: the monomials of a symbol with n arguments fit; 10: they have each argument
abbrev pub monomial_questions : ℕ → Polynomial → List Question
monomial_questions n p = record { number = 9; asks = MonomialsFit n [] p } ∷ record { number = 10; asks = HasArguments n p } ∷ []

-- before these, 8: the field's code is declared, and it is the first for it
abbrev pub polynomial_questions : Asked
polynomial_questions sig before l =
    record { number = 8; asks = FirstFor sig before l } ∷ monomial_questions (unwrap_or (sig (code l.field)) 0) (polynomial_from (monomials_in l.field))

-- ── by a table of places ──

-- the length of the value of the field whose figures stand at the place p: the field begins four bytes before
abbrev pub length_before : List ℕ → ℕ → ℕ
length_before bs p = value_length (drop (p - 4) bs)

-- the monomials that begin at a place of the bytes, behind the code, and none where there is no place
abbrev pub monomials_from : List ℕ → Option ℕ → List ℕ
monomials_from bs None = []
monomials_from bs (Some p) = take (length_before bs p - 1) (drop p bs)

-- the monomials of a code by a table of places
abbrev pub monomials_of : List ℕ → Places → ℕ → List ℕ
monomials_of bs places c = monomials_from bs (place_of places c)

-- the monomials at a place stand whole in the bytes
abbrev pub Whole : List ℕ → ℕ → Type 0
Whole bs p = (4 ≤ p) × (1 ≤ length_before bs p) × (p + (length_before bs p - 1) ≤ length bs)
