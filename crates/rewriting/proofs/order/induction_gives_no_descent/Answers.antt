use Rattle.rewriting.specs.Order.{OverOf}
use Rattle.rewriting.proofs.Termination.{accessible_passes}
use Rattle.rewriting.proofs.order.induction_gives_no_descent.Goals as goal

pub returns : goal.returns
returns g c = λ induction t.
    induction (accessible_passes (OverOf (g.O.Reduction.signature c.args.order.now) (g.O.Reduction.over c.args.order.now))) t
