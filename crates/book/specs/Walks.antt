-- How a book's fields are gone over.
use Rattle.std.specs.Prelude.{◌≡◌, List, Option}
use Rattle.book.specs.declared.field.Field.{Field}
use Rattle.book.specs.declared.fields.Fields.{Fields}
use Rattle.book.specs.Meaning.{Located, fields_from}
use Rattle.book.specs.Queries.{NextOf}

-- the fields that are still to come
abbrev pub fields_left : Fields → List Located
fields_left s = fields_from s.reader.at s.reader.bytes.now s.tag

-- one call hands out the next field with the tag, or none, and goes on over the same bytes
pub record HandsOut (s : Fields) (found : Option Field) (t : Fields) : Type 0 where
  pub bytes : t.reader.bytes.now ≡ s.reader.bytes.now
  pub tag : t.tag ≡ s.tag
  pub answer : NextOf s.reader.bytes.now s.tag s.reader.at found t.reader.at
