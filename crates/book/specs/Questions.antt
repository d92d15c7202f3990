-- Which bytes are a book, and which question says the first no to any others.
use Rattle.std.specs.Prelude.{◌≡◌, ℕ, ◌+◌, ◌<◌, ◌≤◌, true, List, [], ◌∷◌, ◌++◌, length, drop, is_some, Some, None, Option, MatchOption}
use Rattle.terms.specs.Prefix.{Arities}
pub use Rattle.terms.specs.Side.{IsSide}
use Rattle.terms.specs.Question.{Question, AllYes, FirstNo}
use Rattle.book.specs.Format.{BookField, book_bytes, shape_of, FitsShape, value_length, field_at}
use Rattle.book.specs.declared.fault.Fault.{Fault}
use Rattle.book.specs.Faults.{number_of, offset_of}
use Rattle.book.specs.Meaning.{code, arity, signature, left_side, right_side, located, with_tag}

-- 2: the bytes begin with a whole field
abbrev pub Whole : List ℕ → Type 0
Whole rest = 3 + value_length rest ≤ length rest

-- What a reader that has read the first `at` bytes of bs hands out, and how many bytes it has read then: the whole field behind them,
pub record FieldRead (bs : List ℕ) (at offset : ℕ) (f : BookField) (then : ℕ) : Type 0 where
  pub whole : Whole (drop at bs)
  pub offset_is : offset ≡ at
  pub field_is : f ≡ field_at (drop at bs)
  pub goes_on : then ≡ at + (3 + value_length (drop at bs))

-- nothing at the end,
pub record AtEnd (bs : List ℕ) (at then : ℕ) : Type 0 where
  pub nothing : drop at bs ≡ []
  pub stays : then ≡ at

-- and fault 2 with the offset where bytes are left that are no whole field
pub record NotRead (bs : List ℕ) (at : ℕ) (e : Fault) (then : ℕ) : Type 0 where
  pub more : 0 < length (drop at bs)
  pub no_field : Whole (drop at bs) → ⊥
  pub number : number_of e ≡ 2
  pub offset : offset_of e ≡ Some at
  pub stays : then ≡ at

-- 3: the tag is one of the format's
abbrev pub TagKnown : BookField → Type 0
TagKnown f = is_some (shape_of f.tag) ≡ true

-- 4: the value's length fits the tag
abbrev pub LengthFits : BookField → Type 0
LengthFits f = MatchOption (shape_of f.tag) ⊥ (λ s. FitsShape s (length f.value))

-- 5: a symbol has a code from 01 to 7F that no field before declares, and at most 3 arguments
pub record SymbolFits (before : List BookField) (f : BookField) : Type 0 where
  pub least : 1 ≤ code f
  pub most : code f < 128
  pub new : signature before (code f) ≡ None
  pub few : arity f ≤ 3

-- 6: each side of a rule has 1 to 32 bytes and is one term of the symbols declared before, with the variables 80 to 83
abbrev pub SidesFit : Arities → BookField → Type 0
SidesFit sig f = IsSide sig (left_side f) × IsSide sig (right_side f)

-- 7: there are at most 32 rules
abbrev pub rules_in : List BookField → ℕ
rules_in fs = length (with_tag 2 (located 0 fs))

abbrev pub RoomForRule : List BookField → Type 0
RoomForRule before = rules_in before < 32

-- the questions of a field f, behind the fields `before`
abbrev pub field_questions : List BookField → BookField → List Question
field_questions before f =
    record { number = 3; asks = TagKnown f }
    ∷ record { number = 4; asks = LengthFits f }
    ∷ record { number = 5; asks = f.tag ≡ 1 → SymbolFits before f }
    ∷ record { number = 6; asks = f.tag ≡ 2 → SidesFit (signature before) f }
    ∷ record { number = 7; asks = f.tag ≡ 2 → RoomForRule before }
    ∷ []

-- the questions of the bytes `rest`, behind the fields `before`
abbrev pub questions : List BookField → List ℕ → List Question
questions before rest = record { number = 2; asks = Whole rest } ∷ field_questions before (field_at rest)

-- each field passes all its questions, behind those before it
abbrev pub Good : List BookField → List BookField → Type 0
Good before [] = Unit {0}
Good before (f ∷ fs) = AllYes (field_questions before f) × Good (before ++ f ∷ []) fs

-- 1: a book has at most 4,096 bytes
abbrev pub book_limit : ℕ
book_limit = 4096

-- No question says no: the bytes are a book.
pub record Accepted (bs : List ℕ) : Type 0 where
  pub short : length bs ≤ book_limit
  pub contents : List BookField
  pub form : book_bytes contents ≡ bs
  pub good : Good [] contents

-- The first no, with the number n, is said to the field that begins at the offset `at`, behind good fields.
pub record RefusedAt (bs : List ℕ) (n at : ℕ) : Type 0 where
  pub short : length bs ≤ book_limit
  pub before : List BookField
  pub rest : List ℕ
  pub form : book_bytes before ++ rest ≡ bs
  pub good : Good [] before
  pub more : 0 < length rest
  pub offset : at ≡ length (book_bytes before)
  pub first_no : FirstNo (questions before rest) n

-- The first no has the number n, and carries the offset of a field or nothing.
abbrev pub Refused : List ℕ → ℕ → Option ℕ → Type 0
Refused bs n None = (n ≡ 1) × (book_limit < length bs)
Refused bs n (Some at) = RefusedAt bs n at
