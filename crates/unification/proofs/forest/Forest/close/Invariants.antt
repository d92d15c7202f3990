use Rattle.std.proofs.Common.{length}
use Rattle.unification.specs.Classes.{Progress}
use Rattle.unification.proofs.Counting.{total}
use Rattle.unification.proofs.Closure.{represents}
use Rattle.unification.proofs.forest.Forest.close.Given as goal

abbrev pub invariant-merging : goal.invariant-merging
invariant-merging g l = Progress (g.S.Signature.arities l.self.signature.now) l.self.codes.now l.initial.rep l.rep

-- the number of classes
abbrev pub decreases-merging : goal.decreases-merging
decreases-merging g l = total (represents l.rep) (length l.self.codes.now)
