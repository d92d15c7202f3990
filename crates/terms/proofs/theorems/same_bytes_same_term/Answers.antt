use Rattle.terms.proofs.Reading.{same_bytes_same_term}
use Rattle.terms.proofs.theorems.same_bytes_same_term.Goals as goal

pub returns : goal.returns
returns c = same_bytes_same_term
