use Rattle.std.proofs.Common.{◌≡◌, ℕ, ◌+◌, ◌<◌, length, get_or}
use Rattle.polynomials.proofs.Products.{row}
use Rattle.polynomials.proofs.table.Table.add_row.Given as goal

abbrev pub invariant-loop-j : goal.invariant-loop-j
invariant-loop-j l =
    ((k : ℕ) → k < 256 → get_or l.self.cells k 0 ≡ get_or l.initial.self.cells k 0 + row l.a.cells l.b.cells l.i l.j k)
    × (length l.self.cells ≡ length l.initial.self.cells)
