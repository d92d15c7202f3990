-- What a monomial of the program says.
use Rattle.std.specs.Prelude.{slice_index}
use Rattle.polynomials.specs.Polynomial.{Monomial}
use Rattle.polynomials.specs.declared.monomial.Monomial.{Monomial as Read}

-- its factor, and the exponents of the three arguments
abbrev pub meant : Read → Monomial
meant m = record {
  factor = m.factor;
  exponents = record { e0 = slice_index m.exponents 0; e1 = slice_index m.exponents 1; e2 = slice_index m.exponents 2; e3 = 0 };
}
