use Rattle.std.proofs.Common.{ℕ, ◌<◌, get_or}
use Rattle.unification.specs.Classes.{Initial}
use Rattle.unification.proofs.classes.start.Given as goal

abbrev pub invariant-loop-i : goal.invariant-loop-i
invariant-loop-i l = (k : ℕ) → k < l.i → Initial l.codes k (get_or l.rep k 0)
