use Rattle.std.proofs.Common.{◌<◌, length}
use Rattle.unification.proofs.Counting.{total}
use Rattle.unification.proofs.Ranking.{Ranks, lacks}
use Rattle.unification.proofs.forest.Partition.order.Given as goal

abbrev pub invariant-loop-i : goal.invariant-loop-i
invariant-loop-i g l = (0 < l.next) × Ranks (g.S.Signature.arities l.self.forest.now.signature.now) l.self.forest.now.codes.now l.self.rep.now l.rank l.next

-- the number of offsets without a rank
abbrev pub decreases-loop-i : goal.decreases-loop-i
decreases-loop-i g l = total (lacks l.rank) (length l.self.forest.now.codes.now)
