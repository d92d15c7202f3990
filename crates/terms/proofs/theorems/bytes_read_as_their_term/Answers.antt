use Rattle.terms.proofs.Reading.{bytes_read_as_their_term}
use Rattle.terms.proofs.theorems.bytes_read_as_their_term.Goals as goal

pub returns : goal.returns
returns c = bytes_read_as_their_term
