-- The polynomials of a proper interpretation keep the laws of an order; grades depend on the figures alone.
use Rattle.std.proofs.Common.{◌≡◌, ℕ, Bool, true, false, cond, ◌||◌, arith}
use Rattle.terms.specs.Term.{Term}
use Rattle.polynomials.specs.Interpretation.{Interpretation, Over, polynomial_of, shifted}
use Rattle.polynomials.specs.Grade.{steep, large, any_negative, positive_constant, grade}
use Rattle.polynomials.proofs.Statements.{grade_zero_is_over, interpretation_gives_reduction_order}
use Rattle.order_theory.specs.Grade.{path_grade, polynomial_grade}
use Rattle.order_theory.specs.Theorems.{PolynomialOrderKeepsTheLaws, EqualRanksGradeAlike, EqualPolynomialsGradeAlike}
use Rattle.order_theory.proofs.BytesLaws.{bytes_keep_the_laws}

at_most_three : (a b c d : Bool) → ◌≡◌ {A = ℕ} (cond a 3 (cond b 2 (cond c 1 (cond d 0 1)))) 8 → ⊥
at_most_three true b c d e = omega arith
at_most_three false true c d e = omega arith
at_most_three false false true d e = omega arith
at_most_three false false false true e = omega arith
at_most_three false false false false e = omega arith

never_eight : (interpretation : Interpretation) (s t : Term) → grade interpretation s t ≡ 8 → ⊥
never_eight interpretation s t =
    at_most_three (steep (polynomial_of interpretation s) || steep (polynomial_of interpretation t)) (large (polynomial_of interpretation s) || large (polynomial_of interpretation t))
    (any_negative (shifted interpretation s) (shifted interpretation t)) (positive_constant (shifted interpretation s) (shifted interpretation t))

pub polynomial_order_keeps_the_laws : PolynomialOrderKeepsTheLaws
polynomial_order_keeps_the_laws sig interpretation proper =
    bytes_keep_the_laws sig (grade interpretation) (Over interpretation) (never_eight interpretation)
    (grade_zero_is_over sig interpretation proper) (interpretation_gives_reduction_order sig interpretation proper)

pub equal_ranks_grade_alike : EqualRanksGradeAlike
equal_ranks_grade_alike sig sig' rank rank' a r bs cs = λ k. path_grade (λ c. a c k) (λ c. r c k) bs cs

pub equal_polynomials_grade_alike : EqualPolynomialsGradeAlike
equal_polynomials_grade_alike sig sig' interpretation interpretation' a r bs cs = λ k. polynomial_grade (λ c. a c k) (λ c. r c k) bs cs
