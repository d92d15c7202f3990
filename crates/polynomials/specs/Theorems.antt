-- The theorems, each on the contract of a function of its own name in src/theorems.rt.
use Rattle.std.specs.Prelude.{◌≡◌, ℕ, ◌+◌, ◌≤◌, false, ◌↔◌, [], ◌∷◌}
use Rattle.terms.specs.Term.{Term}
use Rattle.terms.specs.Prefix.{Arities, WellSorted}
use Rattle.rewriting.specs.Order.{ReductionOrder}
use Rattle.polynomials.specs.Polynomial.{Exponents, Polynomial, coefficient, value}
use Rattle.polynomials.specs.Interpretation.{Interpretation, least_number, Proper, evaluate, Over, polynomial_of, shifted}
use Rattle.polynomials.specs.Grade.{any_negative, grade}

-- The value of a term's polynomial is the number of the term, and that of its shifted polynomial the number with each variable shifted.
abbrev pub EvaluationTheorem : Type 0
EvaluationTheorem =
    (interpretation : Interpretation) (sig : Arities) (t : Term) → WellSorted sig 4 t → (α : ℕ → ℕ)
    → (value (α 128 ∷ α 129 ∷ α 130 ∷ α 131 ∷ []) (polynomial_of interpretation t) ≡ evaluate interpretation α t)
    × (value (α 128 ∷ α 129 ∷ α 130 ∷ α 131 ∷ []) (shifted interpretation t) ≡ evaluate interpretation (λ x. α x + least_number) t)

-- There is no negative coefficient exactly if none of q is greater than that of p.
abbrev pub NoNegativeCoefficient : Type 0
NoNegativeCoefficient = (p q : Polynomial) → (any_negative p q ≡ false) ↔ ((e : Exponents) → coefficient q e ≤ coefficient p e)

-- Terms of grade 0 are in the order.
abbrev pub GradeZeroIsOver : Type 0
GradeZeroIsOver =
    (sig : Arities) (interpretation : Interpretation) → Proper sig interpretation
    → (s t : Term) → WellSorted sig 4 s → WellSorted sig 4 t → grade interpretation s t ≡ 0 → Over interpretation s t

-- A proper interpretation gives a reduction order.
abbrev pub InterpretationGivesReductionOrder : Type 0
InterpretationGivesReductionOrder =
    (sig : Arities) (interpretation : Interpretation) → Proper sig interpretation → ReductionOrder sig (Over interpretation)
