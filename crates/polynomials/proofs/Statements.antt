-- The theorems, put together.
use Rattle.polynomials.specs.Theorems.{EvaluationTheorem, NoNegativeCoefficient, GradeZeroIsOver, InterpretationGivesReductionOrder}
use Rattle.polynomials.proofs.Values.{value_polynomial, value_shifted}
use Rattle.polynomials.proofs.Grades.{nowhere_negative, no_negative, grade_over}
use Rattle.polynomials.proofs.Laws.{reduction_order}

pub evaluation_theorem : EvaluationTheorem
evaluation_theorem interpretation sig t sorted α = (value_polynomial interpretation sig t sorted α, value_shifted interpretation sig t sorted α)

pub no_negative_coefficient : NoNegativeCoefficient
no_negative_coefficient p q = (nowhere_negative p q, no_negative p q q)

pub grade_zero_is_over : GradeZeroIsOver
grade_zero_is_over sig interpretation proper = grade_over sig interpretation proper

pub interpretation_gives_reduction_order : InterpretationGivesReductionOrder
interpretation_gives_reduction_order sig interpretation proper = reduction_order interpretation sig proper
