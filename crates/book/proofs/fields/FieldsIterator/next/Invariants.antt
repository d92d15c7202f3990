-- The fields that were passed over have another tag.
use Rattle.std.proofs.Common.{◌≡◌, ◌-◌, length}
use Rattle.book.specs.Meaning.{fields_from}
use Rattle.book.proofs.fields.FieldsIterator.next.Given as goal

abbrev pub invariant-loop-field : goal.invariant-loop-field
invariant-loop-field l =
    (l.self.reader.bytes.now ≡ l.initial.self.reader.bytes.now)
    × (l.self.tag ≡ l.initial.self.tag)
    × (fields_from l.initial.self.reader.at l.initial.self.reader.bytes.now l.initial.self.tag
    ≡ fields_from l.self.reader.at l.initial.self.reader.bytes.now l.initial.self.tag)

abbrev pub decreases-loop-field : goal.decreases-loop-field
decreases-loop-field l = length l.self.reader.bytes.now - l.self.reader.at
