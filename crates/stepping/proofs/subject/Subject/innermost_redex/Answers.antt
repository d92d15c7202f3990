use Rattle.std.proofs.Common.{◌≡◌, ◌<◌, subst, arith, rules}
use Rattle.std.specs.Option.{option_map}
use Rattle.terms.specs.Term.{size}
use Rattle.stepping.specs.Subjects.{signature_on, rules_on, term_on}
use Rattle.stepping.proofs.Bytes.{reads_length}
use Rattle.stepping.proofs.Searches.{Searched, goes_on_some, goes_on_none, candidate_ended, search_there, search_end}
use Rattle.stepping.proofs.subject.Subject.innermost_redex.Goals as goal
use Rattle.stepping.proofs.subject.Subject.innermost_redex.Goals.{in-Some+else-candidate-place, in_default}

pub returns-then-candidate-place : goal.returns-then-candidate-place
returns-then-candidate-place c =
    let s = c.args.self.now in
    candidate_ended (rules_on s) (term_on s) c.loop-place.place c.in-Some.candidate (subst (Searched (rules_on s) (term_on s) c.loop-place.place) c.in-Some.is c.loop-place.invariant) c.if-candidate-place.true

pub loop-place-preserved : goal.loop-place-preserved
loop-place-preserved c =
    let s = c.args.self.now in
    let long = reads_length (signature_on s) s.variables s.term.now (term_on s) s.reads in
    let here = c.redex_at.ensures in
    let inside : c.loop-place.place < size (term_on s) = omega (arith, long, c.loop-place-test.true) in
    rw c.or-found.ensures
    (elim c.match-found.branch [
      | in-Some+else-candidate-place w ↦
          let on = goes_on_some (rules_on s) (term_on s) c.loop-place.place c.loop-place.found c.match-found.found w.in-Some.candidate c.loop-place.invariant w.in-Some.is w.found-is w.if-candidate-place.false in
          search_there (rules_on s) (term_on s) c.loop-place.place c.match-found.found c.redex_at.result inside on.0 on.1 here
      | in_default w ↦
          let on = goes_on_none (rules_on s) (term_on s) c.loop-place.place c.loop-place.found c.match-found.found c.loop-place.invariant w.in_default.is w.found-is in
          search_there (rules_on s) (term_on s) c.loop-place.place c.match-found.found c.redex_at.result inside on.0 on.1 here
    ])

pub returns : goal.returns
returns c =
    let s = c.args.self.now in
    let long = reads_length (signature_on s) s.variables s.term.now (term_on s) s.reads in
    let mapped : c.map.result ≡ option_map (λ x. x.redex) c.loop-place.found = search rules in
    rw mapped (search_end (rules_on s) (term_on s) c.loop-place.place c.loop-place.found c.loop-place.invariant (omega (arith, long, c.loop-place-test.false)))
