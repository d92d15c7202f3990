-- No rule so far matches at the place.
use Rattle.stepping.specs.Subjects.{rules_on, term_on}
use Rattle.stepping.proofs.Searches.{NoneBelow}
use Rattle.stepping.proofs.subject.Subject.redex_at.Given as goal

abbrev pub invariant-loop-rule : goal.invariant-loop-rule
invariant-loop-rule l = NoneBelow (rules_on l.self) (term_on l.self) l.place l.rule
