use Rattle.rewriting.proofs.Statements.{newmans_lemma}
use Rattle.rewriting.proofs.theorems.newmans_lemma.Goals as goal

pub returns : goal.returns
returns c = newmans_lemma
