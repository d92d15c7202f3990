use Rattle.std.proofs.Common.{◌∷◌, [], length, ap, arith, length-append}
use Rattle.terms.specs.Prefix.{image}
use Rattle.unification.specs.Written.{bytes_of}
use Rattle.unification.specs.Numbering.{numbered}
use Rattle.unification.proofs.Renumbering.{expand_more}
use Rattle.unification.proofs.numbering.renumbered.Goals as goal

pub loop-code-preserved : goal.loop-code-preserved
loop-code-preserved c = (
  omega (arith, ap length c.push.ensures, length-append (bytes_of c.loop-code.out) (c.number.result ∷ []), c.loop-code.invariant.0),
  expand_more (image (numbered c.args.variables.now)) c.as_slice-codes.result.now _ _ c.loop-code.code-index _ (omega arith) c.loop-code.invariant.1 c.number.ensures c.push.ensures,
)
