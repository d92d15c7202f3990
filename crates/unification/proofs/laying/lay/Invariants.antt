use Rattle.std.proofs.Common.{◌≡◌, ◌+◌, ◌++◌, length}
use Rattle.unification.specs.Writing.{written}
use Rattle.unification.specs.Written.{bytes_of}
use Rattle.unification.specs.Laying.{moved}
use Rattle.unification.proofs.laying.lay.Given as goal

-- the bytes before the index are laid
abbrev pub invariant-loop-code : goal.invariant-loop-code
invariant-loop-code l =
    (bytes_of l.out ≡ bytes_of l.initial.out ++ written (moved l.shift) l.bytes 0 l.code-index)
    × (length (bytes_of l.out) ≡ length (bytes_of l.initial.out) + l.code-index)
