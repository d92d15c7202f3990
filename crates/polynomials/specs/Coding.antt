-- The polynomials of symbols as bytes, and numbers that are cut off at a limit.
use Rattle.std.specs.Prelude.{ℕ, zero, suc, ◌+◌, ◌*◌, ◌/◌, min, List, [], ◌∷◌, length, slice_index}
use Rattle.polynomials.specs.Polynomial.{Monomial, Polynomial}

-- a monomial of seven bytes: its factor, the high byte first, and the exponents of the three arguments
abbrev pub monomial_at : List ℕ → ℕ → Monomial
monomial_at bs p = record {
  factor = ((slice_index bs p * 256 + slice_index bs (p + 1)) * 256 + slice_index bs (p + 2)) * 256 + slice_index bs (p + 3);
  exponents = record { e0 = slice_index bs (p + 4); e1 = slice_index bs (p + 5); e2 = slice_index bs (p + 6); e3 = 0 };
}

-- n monomials from the place p on
abbrev pub monomials_at : ℕ → ℕ → List ℕ → Polynomial
monomials_at zero p bs = []
monomials_at (suc n) p bs = monomial_at bs p ∷ monomials_at n (p + 7) bs

-- the polynomial of a list of monomials
unfoldable pub polynomial_from : List ℕ → Polynomial
polynomial_from bs = monomials_at (length bs / 7) 0 bs

-- a number, or the limit where it is larger
unfoldable pub cut_off : ℕ → ℕ → ℕ
cut_off limit n = min n limit
