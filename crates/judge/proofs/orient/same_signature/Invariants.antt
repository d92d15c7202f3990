-- The bytes before have the same arities.
use Rattle.std.proofs.Common.{◌≡◌, ℕ, ◌<◌}
use Rattle.book.specs.Meaning.{signature_of}
use Rattle.judge.proofs.orient.same_signature.Given as goal

abbrev pub invariant-loop-code : goal.invariant-loop-code
invariant-loop-code g l = (c : ℕ) → c < l.code → g.O.Order.signature l.order c ≡ signature_of l.book.tables.bytes.now c
