use Rattle.terms.proofs.Parts.{first_is_all}
use Rattle.terms.proofs.prefix.is_term.Goals as goal

pub returns : goal.returns
returns g c = first_is_all _ _ c.args.bytes.now _ _ c.first_term_length.ensures c.eq.ensures
