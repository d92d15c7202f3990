use Rattle.rewriting.proofs.Statements.{one_normal_form}
use Rattle.rewriting.proofs.theorems.one_normal_form.Goals as goal

pub returns : goal.returns
returns c = one_normal_form
