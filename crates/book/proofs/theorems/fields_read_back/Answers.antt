use Rattle.book.proofs.FieldBytes.{fields_back}
use Rattle.book.proofs.theorems.fields_read_back.Goals as goal

pub returns : goal.returns
returns c = fields_back
