use Rattle.terms.proofs.Places.{position_tells_the_part}
use Rattle.terms.proofs.theorems.position_tells_the_part.Goals as goal

pub returns : goal.returns
returns c = position_tells_the_part
