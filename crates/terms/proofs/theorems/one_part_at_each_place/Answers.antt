use Rattle.terms.proofs.Places.{one_part_at_each_place}
use Rattle.terms.proofs.theorems.one_part_at_each_place.Goals as goal

pub returns : goal.returns
returns c = one_part_at_each_place
