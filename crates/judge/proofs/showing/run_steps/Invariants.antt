-- The steps so far lead to the term in hand.
use Rattle.std.proofs.Common.{take}
use Rattle.std.specs.List.{concat}
use Rattle.terms.specs.Term.{Term}
use Rattle.terms.specs.Prefix.{Reads}
use Rattle.unification.specs.Written.{bytes_of}
use Rattle.book.specs.Meaning.{signature_of, rules_of}
use Rattle.judge.specs.Showing.{EndsAt}
use Rattle.judge.proofs.showing.run_steps.Given as goal

abbrev pub invariant-loop-step : goal.invariant-loop-step
invariant-loop-step l =
    (t : Term) → Reads (signature_of l.book.tables.bytes.now) 8 (bytes_of l.first) t
    → EndsAt (signature_of l.book.tables.bytes.now) (rules_of l.book.tables.bytes.now) (concat (take l.step-counter l.steps)) t l.term
