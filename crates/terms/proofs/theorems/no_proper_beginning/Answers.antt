use Rattle.terms.proofs.Reading.{no_proper_beginning}
use Rattle.terms.proofs.theorems.no_proper_beginning.Goals as goal

pub returns : goal.returns
returns c = no_proper_beginning
