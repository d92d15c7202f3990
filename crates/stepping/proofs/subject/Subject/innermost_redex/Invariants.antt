-- The places so far are searched.
use Rattle.stepping.specs.Subjects.{rules_on, term_on}
use Rattle.stepping.proofs.Searches.{Searched}
use Rattle.stepping.proofs.subject.Subject.innermost_redex.Given as goal

abbrev pub invariant-loop-place : goal.invariant-loop-place
invariant-loop-place l = Searched (rules_on l.self) (term_on l.self) l.place l.found
