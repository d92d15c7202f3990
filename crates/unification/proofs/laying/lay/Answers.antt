use Rattle.std.proofs.Common.{◌∷◌, [], length, ap, arith, length-append}
use Rattle.unification.specs.Written.{bytes_of}
use Rattle.unification.specs.Laying.{moved}
use Rattle.unification.proofs.Writes.{turn_writes}
use Rattle.unification.proofs.laying.lay.Goals as goal

pub loop-code-preserved : goal.loop-code-preserved
loop-code-preserved c = (
  turn_writes (moved c.args.shift) c.args.bytes.now _ _ _ 0 c.loop-code.code-index _ (omega arith) (omega arith) c.shifted.ensures c.loop-code.invariant.0 c.push.ensures,
  omega (arith, ap length c.push.ensures, length-append (bytes_of c.loop-code.out) (c.shifted.result ∷ []), c.loop-code.invariant.1),
)
