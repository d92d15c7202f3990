use Rattle.std.proofs.Common.{Ok}
use Rattle.std.proofs.lemmas.Option.{MatchOption-at_some}
use Rattle.book.specs.Meaning.{signature_of, rules_of}
use Rattle.stepping.specs.Stepping.{InnermostAnswer}
use Rattle.stepping.specs.Subjects.{signature_on, rules_on, term_on}
use Rattle.stepping.proofs.Results.{along}
use Rattle.stepping.proofs.Searches.{innermost_answer}
use Rattle.stepping.proofs.search.innermost.Goals as goal

pub returns : goal.returns
returns c =
    let s = c.in_ok-subject.subject in
    let is = MatchOption-at_some _ _ s c.in_ok-subject.ensures.ok_part c.new.ensures in
    along (λ b v w. InnermostAnswer (signature_of b) v (rules_of b) w (Ok c.innermost_redex.result)) is
    (innermost_answer (rules_on s) (term_on s) (signature_on s) s.variables s.term.now c.innermost_redex.result s.reads c.innermost_redex.ensures)
