-- Tables of places, by codes.
use Rattle.std.specs.Prelude.{◌≡◌, ℕ, ◌<◌, cond, Some, None, Option, ◌==◌, nat_lt, slice_index}
use Rattle.std.specs.Int.{bit_at}
use Rattle.book.specs.declared.places.Places.{Places}

-- the place that a table has for a code; of a number that is no code it has none
abbrev pub place_of : Places → ℕ → Option ℕ
place_of places code = cond (nat_lt code 128) (cond (bit_at places.entered code == 1) (Some (slice_index places.by_code code)) None) None

-- the number is a code, and has no place yet
abbrev pub IsFree : Places → ℕ → Type 0
IsFree places code = (code < 128) × (place_of places code ≡ None)

-- the second table is the first with a place for the code, and has every other place as before
abbrev pub Entered : Places → ℕ → ℕ → Places → Type 0
Entered old code place new = (c : ℕ) → place_of new c ≡ cond (c == code) (Some place) (place_of old c)
