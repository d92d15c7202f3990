use Rattle.std.proofs.Common.{◌-◌}
use Rattle.terms.specs.Term.{Term}
use Rattle.unification.specs.Standing.{Stands}
use Rattle.unification.proofs.Walking.{Beside}
use Rattle.unification.proofs.forest.Partition.argument_split.Given as goal

abbrev pub invariant-loop-k : goal.invariant-loop-k
invariant-loop-k g l = (s t : Term) → Stands (g.S.Signature.arities l.self.forest.now.signature.now) l.self.forest.now.codes.now l.i s → Stands (g.S.Signature.arities l.self.forest.now.signature.now) l.self.forest.now.codes.now l.r t → Beside (g.S.Signature.arities l.self.forest.now.signature.now) l.self.forest.now.codes.now l.self.rep.now l.i l.r s t l.a l.b (l.many - l._k)
