-- The numbers of grades.
use Rattle.std.specs.Prelude.{ℕ}
use Rattle.polynomials.specs.declared.grading.Grade.{Grade}
use Rattle.polynomials.specs.declared.grading.Grade.TheVariants.{Over, NotOver, TooLarge, TooSteep}

abbrev pub number_of : Grade → ℕ
number_of Over = 0
number_of NotOver = 1
number_of TooLarge = 2
number_of TooSteep = 3
