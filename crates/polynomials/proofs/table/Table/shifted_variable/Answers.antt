use Rattle.std.proofs.Common.{set, subst, arith}
use Rattle.polynomials.specs.Polynomial.{monomial, constant, sum}
use Rattle.polynomials.specs.Interpretation.{least_number}
use Rattle.polynomials.specs.Cells.{Holds}
use Rattle.polynomials.proofs.Tables.{holds_put, constant_empty}
use Rattle.polynomials.proofs.table.Table.shifted_variable.Goals as goal

pub returns : goal.returns
returns c =
    let cells = c.constant-table.result.cells in
    let i = c.variable_cell.result in
    subst (λ e. Holds (set cells i 1) (sum (monomial 1 e) (constant least_number))) c.variable_cell.ensures.is
    (holds_put cells (constant least_number) i 1 (omega arith) c.constant-table.ensures
    (constant_empty cells least_number i c.constant-table.ensures (omega arith) (omega arith)))
