use Rattle.rewriting.specs.Order.{OverOf}
use Rattle.rewriting.proofs.Termination.{accessible_induction}
use Rattle.rewriting.proofs.order.no_descent_gives_induction.Goals as goal

pub returns : goal.returns
returns g c = λ passes t.
    accessible_induction
    (OverOf (g.O.Reduction.signature c.args.order.now) (g.O.Reduction.over c.args.order.now))
    (g.P.Property.holds c.args.property.now)
    passes t
    ((g.O.Reduction.laws c.args.order.now).no_descent t)
