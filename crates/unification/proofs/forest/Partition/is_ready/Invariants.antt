use Rattle.unification.specs.Classes.{Ready}
use Rattle.unification.proofs.forest.Partition.is_ready.Given as goal

abbrev pub invariant-loop-j : goal.invariant-loop-j
invariant-loop-j g l = Ready l.self.forest.now.codes.now l.self.rep.now l.rank l.from l.j
