-- What the program's fields mean, and what a reader gives of them.
use Rattle.std.specs.Prelude.{ℕ, List, Option, MatchOption, MatchResult, Result}
use Rattle.book.specs.declared.fault.Fault.{Fault}
use Rattle.book.specs.declared.field.Field.{Field}
use Rattle.book.specs.Format.{BookField, book_field}
use Rattle.book.specs.Questions.{FieldRead, AtEnd, NotRead}

-- a field handed out, as a field of the format
abbrev pub meant : Field → BookField
meant f = book_field f.tag f.value.now

-- what a reader gives behind the first `at` bytes, and how many bytes it has read then
abbrev pub ReaderGives : List ℕ → ℕ → Result (Option Field) Fault → ℕ → Type 0
ReaderGives bs at given then =
    MatchResult given
    (λ o. MatchOption o (AtEnd bs at then) (λ f. FieldRead bs at f.offset (meant f) then))
    (λ e. NotRead bs at e then)
