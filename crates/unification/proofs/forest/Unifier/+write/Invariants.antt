use Rattle.std.proofs.Common.{◌≡◌, ◌++◌}
use Rattle.terms.specs.Term.{Subst}
use Rattle.unification.specs.Classes.{Solves}
use Rattle.unification.specs.Writing.{written}
use Rattle.unification.specs.Written.{bytes_of}
use Rattle.unification.proofs.forest.Unifier.+write.Given as goal

abbrev pub decreases-write : goal.decreases-write
decreases-write g l = l.below

-- the codes before j are written
abbrev pub invariant-loop-j : goal.invariant-loop-j
invariant-loop-j g l = (μ : Subst) → Solves (g.S.Signature.arities l.self.forest.now.signature.now) l.self.forest.now.codes.now l.self.rep.now μ → bytes_of l.out ≡ bytes_of l.initial.out ++ written μ l.self.forest.now.codes.now l.from l.j
