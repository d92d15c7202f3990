use Rattle.std.proofs.Common.{◌≡◌, ◌++◌, ◌<◌, length}
use Rattle.terms.specs.Term.{Term}
use Rattle.terms.specs.Prefix.{prefix, Begins, behind}
use Rattle.polynomials.specs.Interpretation.{Throughout}
use Rattle.polynomials.proofs.Walks.{arguments}
use Rattle.polynomials.proofs.algebra.+evaluate.Given as goal

abbrev pub decreases-evaluate : goal.decreases-evaluate
decreases-evaluate g l = length l.bytes.now

abbrev pub invariant-loop-i : goal.invariant-loop-i
invariant-loop-i g l =
    (length l.rest < length l.bytes)
    × ((t : Term) (begins : Begins (g.S.Signature.arities l.symbols) 4 l.bytes t) → Throughout (g.A.Algebra.fits l.algebra (g.S.Symbols.interpretation l.symbols)) t
    → (l.rest ≡ prefix (behind l.i (arguments t)) ++ begins.rest)
    × g.A.Algebra.entered l.algebra (g.S.Symbols.interpretation l.symbols) (arguments t) l.i l.arguments)
