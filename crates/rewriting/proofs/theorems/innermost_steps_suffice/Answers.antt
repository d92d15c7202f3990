use Rattle.rewriting.proofs.Statements.{innermost_steps_suffice}
use Rattle.rewriting.proofs.theorems.innermost_steps_suffice.Goals as goal

pub returns : goal.returns
returns c = innermost_steps_suffice
