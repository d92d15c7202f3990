use Rattle.std.proofs.Common.{◌≡◌, length, take}
use Rattle.terms.specs.Prefix.{image, expand}
use Rattle.unification.specs.Numbering.{numbered}
use Rattle.unification.specs.Written.{bytes_of}
use Rattle.unification.proofs.numbering.renumbered.Given as goal

-- the codes before the index are renumbered
abbrev pub invariant-loop-code : goal.invariant-loop-code
invariant-loop-code l =
    (length (bytes_of l.out) ≡ l.code-index)
    × (bytes_of l.out ≡ expand (image (numbered l.variables)) (take l.code-index l.codes))
