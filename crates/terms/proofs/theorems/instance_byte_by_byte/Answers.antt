use Rattle.terms.proofs.Reading.{instance_byte_by_byte}
use Rattle.terms.proofs.theorems.instance_byte_by_byte.Goals as goal

pub returns : goal.returns
returns c = instance_byte_by_byte
