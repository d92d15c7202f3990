use Rattle.rewriting.proofs.Statements.{convergent_on_ground_terms}
use Rattle.rewriting.proofs.theorems.convergent_on_ground_terms.Goals as goal

pub returns : goal.returns
returns c = convergent_on_ground_terms
