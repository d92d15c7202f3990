-- The rules before are over, and their sides are terms of the signature.
use Rattle.std.proofs.Common.{◌≡◌, ℕ, ◌<◌}
use Rattle.terms.specs.Term.{rule_at}
use Rattle.terms.specs.Prefix.{WellSorted}
use Rattle.book.specs.Meaning.{signature_of, rules_of}
use Rattle.judge.specs.Orient.{rule_grade}
use Rattle.judge.proofs.orient.rules_fall.Given as goal

abbrev pub invariant-loop-i : goal.invariant-loop-i
invariant-loop-i g l =
    ((j : ℕ) → j < l.i → rule_grade (g.O.Order.grade l.order) (rules_of l.book.tables.bytes.now) j ≡ 0)
    × ((j : ℕ) → j < l.i
    → WellSorted (signature_of l.book.tables.bytes.now) 4 (rule_at (rules_of l.book.tables.bytes.now) j).left
    × WellSorted (signature_of l.book.tables.bytes.now) 4 (rule_at (rules_of l.book.tables.bytes.now) j).right)
