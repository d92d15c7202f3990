use Rattle.std.proofs.Common.{◌≡◌, ℕ, ◌+◌, ◌<◌, length, get_or}
use Rattle.polynomials.proofs.Products.{rows}
use Rattle.polynomials.proofs.table.Table.add_product.Given as goal

abbrev pub invariant-loop-i : goal.invariant-loop-i
invariant-loop-i l =
    ((k : ℕ) → k < 256 → get_or l.self.cells k 0 ≡ get_or l.initial.self.cells k 0 + rows l.a.cells l.b.cells l.i k)
    × (length l.self.cells ≡ length l.initial.self.cells)
