-- What a read book answers, over the meaning of its bytes.
use Rattle.std.specs.Prelude.{◌≡◌, ℕ, ◌<◌, ◌≤◌, List, [], ◌∷◌, length, Option, MatchOption}
use Rattle.terms.specs.Term.{rule_at}
use Rattle.terms.specs.Prefix.{Reads}
use Rattle.book.specs.declared.field.Field.{Field}
use Rattle.book.specs.Meaning.{Located, signature_of, rules_of, fields_from}
use Rattle.book.specs.Views.{meant}

-- the bytes of the two sides of the rule i
pub record SidesOf (bs : List ℕ) (i : ℕ) (left right : List ℕ) : Type 0 where
  pub listed : i < length (rules_of bs)
  pub left_reads : Reads (signature_of bs) 4 left (rule_at (rules_of bs) i).left
  pub right_reads : Reads (signature_of bs) 4 right (rule_at (rules_of bs) i).right
  pub left_most : length left ≤ 32
  pub right_most : length right ≤ 32

-- a field handed out, with its offset
abbrev pub located_as : Field → Located
located_as f = record { offset = f.offset; field = meant f }

-- The next of the fields with a tag, behind the first `at` bytes: it is handed out and left behind; or there is none, and the end is reached.
abbrev pub NextOf : List ℕ → ℕ → ℕ → Option Field → ℕ → Type 0
NextOf bs tag at found then =
    MatchOption found
    ((fields_from at bs tag ≡ []) × (then ≡ length bs))
    (λ f. fields_from at bs tag ≡ located_as f ∷ fields_from then bs tag)
