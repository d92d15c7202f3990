use Rattle.terms.proofs.Places.{parts_agree_with_contexts}
use Rattle.terms.proofs.theorems.parts_agree_with_contexts.Goals as goal

pub returns : goal.returns
returns c = parts_agree_with_contexts
