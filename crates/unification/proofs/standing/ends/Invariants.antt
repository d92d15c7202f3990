use Rattle.std.proofs.Common.{◌+◌, ◌-◌, ◌<◌, ◌≤◌, length}
use Rattle.terms.specs.Term.{Term, size}
use Rattle.unification.specs.Standing.{Stands}
use Rattle.unification.proofs.Walking.{EndsFrom, Left}
use Rattle.unification.proofs.standing.ends.Given as goal

-- so many arguments are left, and they end where the term does
abbrev pub invariant-loop-k : goal.invariant-loop-k
invariant-loop-k g l = (l.i < l.e) × ((t : Term) → Stands (g.S.Signature.arities l.signature) l.codes l.i t → Left (g.S.Signature.arities l.signature) l.codes l.e (l.many - l._k) (l.i + size t))

-- the table is filled from i on
abbrev pub invariant-loop-i : goal.invariant-loop-i
invariant-loop-i g l = (l.i ≤ length l.codes) × EndsFrom (g.S.Signature.arities l.signature) l.codes l.end l.i
