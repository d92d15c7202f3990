-- The ranks of a book's symbols.
use Rattle.std.specs.Prelude.{ℕ, cond, List, [], ◌∷◌, Some, None, Option, ◌==◌, slice_index}
use Rattle.book.specs.Meaning.{Located, fields_of}
use Rattle.book.specs.Places.{place_of}
use Rattle.book.specs.declared.places.Places.{Places}
use Rattle.orders.specs.Figures.{FirstFor}
use Rattle.orders.specs.FieldQuestions.{Asked}

-- the rank of a code by the first field that gives it one, and 0 if none does; a field of a rank has a code and a rank
abbrev pub rank_by : List Located → ℕ → ℕ
rank_by [] c = 0
rank_by (l ∷ ls) c = cond (slice_index l.field.value 0 == c) (slice_index l.field.value 1) (rank_by ls c)

-- the ranks that the bytes of a book mean: its fields with the tag 4
abbrev pub rank_of : List ℕ → ℕ → ℕ
rank_of bs = rank_by (fields_of bs 4)

-- the one question of such a field, 12: its code is declared, and it is the first for it
abbrev pub rank_questions : Asked
rank_questions sig before l = record { number = 12; asks = FirstFor sig before l } ∷ []

-- ── by a table of places ──

-- the rank at a place, and 0 where there is no place
abbrev pub rank_at : List ℕ → Option ℕ → ℕ
rank_at bs None = 0
rank_at bs (Some p) = slice_index bs p

-- the rank of a code by a table of places
abbrev pub rank_in : List ℕ → Places → ℕ → ℕ
rank_in bs ranks c = rank_at bs (place_of ranks c)
