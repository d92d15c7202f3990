-- What is measured of a term from the measures of its arguments: its value with every variable at 2, or the degree of its polynomial in a variable.
use Rattle.std.specs.Prelude.{◌≡◌, ℕ, ◌<◌, ◌≤◌, List, [], ◌∷◌, length, slice_index}
use Rattle.terms.specs.Term.{Kind, Tree, var, node, nil, cons}
use Rattle.polynomials.specs.Polynomial.{Polynomial, exponent, value, greatest, dot}
use Rattle.polynomials.specs.Interpretation.{Interpretation, Numbers, unit}
use Rattle.polynomials.specs.Coding.{cut_off}

pub data Measure : Type 0 where
  ValueAtTwo : Measure
  Degree : ℕ → Measure

-- of a variable
abbrev pub of_variable : Measure → ℕ → ℕ
of_variable ValueAtTwo x = 2
of_variable (Degree i) x = exponent i (unit x)

-- of a symbol's polynomial, where the arguments have the measures ns
abbrev pub of_symbol : Measure → Polynomial → List ℕ → ℕ
of_symbol ValueAtTwo p ns = value ns p
of_symbol (Degree i) p ns = greatest (dot ns) p

-- of a term
abbrev pub measured : {k : Kind} → Measure → Interpretation → Tree k → Numbers k
measured m interpretation (var x) = of_variable m x
measured m interpretation (node f ts) = of_symbol m (interpretation f) (measured m interpretation ts)
measured m interpretation nil = []
measured m interpretation (cons t ts) = measured m interpretation t ∷ measured m interpretation ts

-- the first i of the numbers ns, cut off, and zeros behind them
pub record Filled (limit : ℕ) (ns args : List ℕ) (i : ℕ) : Type 0 where
  pub full : length args ≡ 3
  pub done : (j : ℕ) → j < i → slice_index args j ≡ cut_off limit (slice_index ns j)
  pub zeros : (j : ℕ) → i ≤ j → slice_index args j ≡ 0
