use Rattle.std.proofs.Common.{ℕ, ◌<◌, get_or}
use Rattle.unification.specs.Classes.{ClosedAt}
use Rattle.unification.proofs.forest.Partition.first_split.Given as goal

-- the offsets below i are closed
abbrev pub invariant-loop-i : goal.invariant-loop-i
invariant-loop-i g l = (k : ℕ) → k < l.i → get_or l.self.forest.now.codes.now k 0 < 128 → ClosedAt (g.S.Signature.arities l.self.forest.now.signature.now) l.self.forest.now.codes.now l.self.rep.now k (get_or l.self.rep.now k 0)
