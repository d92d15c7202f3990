use Rattle.rewriting.proofs.Statements.{confluent_iff_church_rosser}
use Rattle.rewriting.proofs.theorems.confluent_iff_church_rosser.Goals as goal

pub returns : goal.returns
returns c = confluent_iff_church_rosser
