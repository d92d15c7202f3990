use Rattle.rewriting.proofs.Statements.{one_overlap_list}
use Rattle.rewriting.proofs.theorems.one_overlap_list.Goals as goal

pub returns : goal.returns
returns c = one_overlap_list
