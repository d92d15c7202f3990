use Rattle.std.proofs.Common.{get_or, ◌∙◌}
use Rattle.polynomials.proofs.Coded.{three_factors}
use Rattle.polynomials.proofs.measure.monomial_value.Goals as goal

pub returns : goal.returns
returns c =
    c.times_power.ensures
    ∙ rw (c.times_power-second.ensures, c.times_power-first.ensures)
    (three_factors 2147483648 _ _ _ _ (get_or c.args.args.now.numbers 3 0))
