use Rattle.unification.specs.Written.{bytes_of}
use Rattle.unification.proofs.Renumbering.{SeenUpTo}
use Rattle.unification.proofs.numbering.appearances.Given as goal

abbrev pub invariant-loop-x : goal.invariant-loop-x
invariant-loop-x l = SeenUpTo l.codes (bytes_of l.variables) l.x-index
