-- The fields before the reader are good, and the tables are theirs; the reader goes on with each turn.
use Rattle.std.proofs.Common.{◌≡◌, ◌-◌, length}
use Rattle.book.proofs.Progress.{Progress}
use Rattle.book.proofs.book.tables_of.Given as goal

abbrev pub invariant-loop-field : goal.invariant-loop-field
invariant-loop-field l = (l.reader.bytes.now ≡ l.bytes) × Progress l.bytes l.tables l.reader.at

abbrev pub decreases-loop-field : goal.decreases-loop-field
decreases-loop-field l = length l.initial.bytes - l.reader.at
