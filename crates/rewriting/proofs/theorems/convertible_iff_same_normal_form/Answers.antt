use Rattle.rewriting.proofs.Statements.{convertible_iff_same_normal_form}
use Rattle.rewriting.proofs.theorems.convertible_iff_same_normal_form.Goals as goal

pub returns : goal.returns
returns c = convertible_iff_same_normal_form
