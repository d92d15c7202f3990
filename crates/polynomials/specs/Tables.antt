-- The tables of a symbol's three arguments.
use Rattle.std.specs.Prelude.{◌≡◌, ℕ, ◌<◌, ◌≤◌, List, [], length, slice_index_or}
use Rattle.terms.specs.Term.{Terms}
use Rattle.terms.specs.Prefix.{behind, head_term}
use Rattle.polynomials.specs.Polynomial.{Polynomial}
use Rattle.polynomials.specs.Interpretation.{Interpretation, shifted}
use Rattle.polynomials.specs.Cells.{Holds}
use Rattle.polynomials.specs.declared.table.Table.{Table}

-- the cells of the table with the number i
abbrev pub cells_at : List Table → ℕ → List ℕ
cells_at tables i = (slice_index_or tables i (record { cells = [] })).cells

-- tables that hold p, q and s
pub record HoldThree (tables : List Table) (p q s : Polynomial) : Type 0 where
  pub first : Holds (cells_at tables 0) p
  pub second : Holds (cells_at tables 1) q
  pub third : Holds (cells_at tables 2) s

-- the first i tables hold the shifted polynomials of the first i terms, and the others hold nothing
pub record TablesOf (interpretation : Interpretation) (ts : Terms) (i : ℕ) (tables : List Table) : Type 0 where
  pub three : length tables ≡ 3
  pub done : (j : ℕ) → j < i → Holds (cells_at tables j) (shifted interpretation (head_term (behind j ts)))
  pub missing : (j : ℕ) → i ≤ j → j < 3 → Holds (cells_at tables j) []
