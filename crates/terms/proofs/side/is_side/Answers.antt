use Rattle.std.proofs.Common.{arith}
use Rattle.terms.proofs.Parts.{side_is}
use Rattle.terms.proofs.side.is_side.Goals as goal

pub returns-then-bytes-le-SIDE_LIMIT : goal.returns-then-bytes-le-SIDE_LIMIT
returns-then-bytes-le-SIDE_LIMIT g c =
    side_is (g.S.Signature.arities c.args.signature.now) c.args.bytes.now c.is_term.result (omega arith) c.is_term.ensures
