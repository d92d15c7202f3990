-- How far the search has come.
use Rattle.book.specs.Meaning.{rules_of}
use Rattle.judge.proofs.Numbers.{Searched}
use Rattle.judge.proofs.overlaps.next_overlap.Given as goal

abbrev pub invariant-loop-number : goal.invariant-loop-number
invariant-loop-number l = Searched (rules_of l.initial.book.tables.bytes.now) l.initial.last l.number
