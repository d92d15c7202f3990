use Rattle.std.proofs.Common.{◌≡◌, ℕ, ◌+◌, ◌<◌, ◌≤◌, length, get_or}
use Rattle.polynomials.proofs.table.Table.add.Given as goal

abbrev pub invariant-loop-k : goal.invariant-loop-k
invariant-loop-k l =
    ((j : ℕ) → j < l.k → get_or l.cell-items j 0 ≡ get_or l.initial.cell-items j 0 + get_or l.a.cells j 0)
    × ((j : ℕ) → l.k ≤ j → get_or l.cell-items j 0 ≡ get_or l.initial.cell-items j 0)
    × (length l.cell-items ≡ length l.initial.cell-items)
