use Rattle.terms.proofs.Places.{bytes_at_a_place}
use Rattle.terms.proofs.theorems.bytes_at_a_place.Goals as goal

pub returns : goal.returns
returns c = bytes_at_a_place
