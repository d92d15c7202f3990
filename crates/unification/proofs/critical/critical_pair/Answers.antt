use Rattle.unification.proofs.Overlaps.{answered}
use Rattle.unification.proofs.critical.critical_pair.Goals as goal

pub returns : goal.returns
returns g c =
    answered _ _ _ _ _ _ c.overlap.result (c.is_asked.ensures.0 c.if-not-is_asked.false) (c.overlap.ensures _ _ c.lay_sides.ensures.sides)
