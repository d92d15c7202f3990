use Rattle.rewriting.proofs.Statements.{joined_overlaps_suffice}
use Rattle.rewriting.proofs.theorems.joined_overlaps_suffice.Goals as goal

pub returns : goal.returns
returns c = joined_overlaps_suffice
