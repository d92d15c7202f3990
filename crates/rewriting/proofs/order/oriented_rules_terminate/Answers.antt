use Rattle.rewriting.proofs.Termination.{oriented_rules_terminate}
use Rattle.rewriting.proofs.order.oriented_rules_terminate.Goals as goal

pub returns : goal.returns
returns g c =
    oriented_rules_terminate
    (g.O.Reduction.signature c.args.order.now)
    (g.O.Reduction.over c.args.order.now)
    (g.O.Reduction.laws c.args.order.now)
