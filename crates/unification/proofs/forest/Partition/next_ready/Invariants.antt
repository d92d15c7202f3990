use Rattle.std.proofs.Common.{ℕ, ◌<◌, get_or}
use Rattle.unification.specs.Classes.{Unranked, Waits}
use Rattle.unification.proofs.forest.Partition.next_ready.Given as goal

abbrev pub invariant-loop-i : goal.invariant-loop-i
invariant-loop-i g l = (k : ℕ) → k < l.i → Unranked l.self.forest.now.codes.now l.rank k → Waits l.self.forest.now.codes.now l.self.rep.now l.rank k (get_or l.self.forest.now.end.now k 0)
