use Rattle.std.proofs.Common.{refl}
use Rattle.unification.proofs.Solution.{unified, not_closed, not_ordered}
use Rattle.unification.proofs.forest.Forest.unify.Goals as goal

pub returns-in_err-close : goal.returns-in_err-close
returns-in_err-close g c = rw c.from_residual-in_err-close.ensures (not_closed _ _ _ _ _ c.in_ok-begin.ensures c.in_err-close.ensures)

pub returns-in_err-order : goal.returns-in_err-order
returns-in_err-order g c = rw c.from_residual-in_err-order.ensures (not_ordered _ _ _ _ _ _ c.in_ok-begin.ensures c.in_ok-close.ensures.0 c.in_err-order.ensures)

pub returns : goal.returns
returns g c =
    let closed = c.in_ok-close.ensures in
    (refl, unified _ _ _ _ _ _ _ c.args.self.now.laid.terms c.requires.first c.requires.second c.in_ok-begin.ensures closed.0 closed.1 c.in_ok-order.ensures)
