-- Why a book gives no polynomial order: the number of the question that says no, and the offset that the fault carries.
use Rattle.std.specs.Prelude.{ℕ, List}
use Rattle.orders.specs.declared.polynomial_fault.PolynomialFault.{PolynomialFault}
use Rattle.orders.specs.declared.polynomial_fault.PolynomialFault.TheVariants.{NotFirst, BadMonomial, NoArgument, NoPolynomial}
use Rattle.orders.specs.FieldQuestions.{FiguresRefused}
use Rattle.orders.specs.Polynomials.{polynomial_questions}

-- the number of each fault
abbrev pub number_of : PolynomialFault → ℕ
number_of (NotFirst at) = 8
number_of (BadMonomial at) = 9
number_of (NoArgument at) = 10
number_of (NoPolynomial at) = 11

-- the offset of the field that it carries: of the polynomial's field, or of the symbol's
abbrev pub offset_of : PolynomialFault → ℕ
offset_of (NotFirst at) = at
offset_of (BadMonomial at) = at
offset_of (NoArgument at) = at
offset_of (NoPolynomial at) = at

-- The first no to the polynomials of a book has the number n and carries the offset `at`; 11: for each symbol there is a polynomial.
abbrev pub PolynomialsRefused : List ℕ → ℕ → ℕ → Type 0
PolynomialsRefused bs = FiguresRefused polynomial_questions bs 3 11
