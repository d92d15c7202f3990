-- What is kept of a book beside its lent bytes: where each symbol's arity stands, and where each rule's field begins.
use Rattle.std.specs.Prelude.{◌≡◌, ℕ, ◌+◌, ◌≤◌, cond, ◌⊎◌, List, [], ◌∷◌, ◌++◌, map, length, take, Some, None, Option, nat_lt, slice_index}
use Rattle.std.specs.Option.{option_and_then}
use Rattle.terms.specs.Prefix.{Arities}
use Rattle.book.specs.declared.field.Field.{Field}
use Rattle.book.specs.declared.tables.Tables.{Tables}
use Rattle.book.specs.Format.{BookField, book_bytes, fields}
use Rattle.book.specs.Meaning.{declares, signature, Located, located, with_tag}
use Rattle.book.specs.Places.{place_of}
use Rattle.book.specs.Questions.{Good, SidesFit, RoomForRule, book_limit}

-- the place of the arity of the code c in the bytes, or None if no field declares it
abbrev pub arity_place : List Located → ℕ → Option ℕ
arity_place [] c = None
arity_place (l ∷ ls) c = cond (declares c l.field) (Some (l.offset + 4)) (arity_place ls c)

-- what stands at a place of the bytes
abbrev pub byte_at : List ℕ → ℕ → Option ℕ
byte_at bs p = cond (nat_lt p (length bs)) (Some (slice_index bs p)) None

-- the signature that the tables answer: the arity of a code stands at its place in the bytes
abbrev pub kept_signature : Tables → Arities
kept_signature t c = option_and_then (byte_at t.bytes.now) (place_of t.arities c)

-- they are the tables of the fields `before`
pub record TablesOf (t : Tables) (before : List BookField) : Type 0 where
  pub arities_are : (c : ℕ) → place_of t.arities c ≡ arity_place (located 0 before) c
  pub symbols_are : t.symbols ≡ length (with_tag 1 (located 0 before))
  pub rules_are : take t.rules.count t.rules.entries ≡ map (λ l. l.offset) (with_tag 2 (located 0 before))
  pub count_is : t.rules.count ≡ length (with_tag 2 (located 0 before))

-- the bytes begin with the good fields `before`
pub record Laid (bs : List ℕ) (before : List BookField) : Type 0 where
  pub short : length bs ≤ book_limit
  pub rest : List ℕ
  pub form : book_bytes before ++ rest ≡ bs
  pub good : Good [] before

-- the bytes begin with the good fields `before`, whose tables they are, and the field stands behind those
pub record StandsNext (t : Tables) (before : List BookField) (f : Field) : Type 0 where
  pub laid : Laid t.bytes.now before
  pub told : TablesOf t before
  pub offset : f.offset ≡ length (book_bytes before)

-- which of its two questions refuses a rule
abbrev pub RuleRefused : List BookField → BookField → ℕ → Type 0
RuleRefused before f n =
    ((SidesFit (signature before) f → ⊥) × (n ≡ 6)) ⊎ (SidesFit (signature before) f × (RoomForRule before → ⊥) × (n ≡ 7))

-- their bytes are a book, and they are its tables
pub record Holds (t : Tables) : Type 0 where
  pub short : length t.bytes.now ≤ book_limit
  pub row : book_bytes (fields t.bytes.now) ≡ t.bytes.now
  pub good : Good [] (fields t.bytes.now)
  pub tabled : TablesOf t (fields t.bytes.now)
