-- What is asked of the fields that give an order its figures, by a list of questions: each is for a code, and has its figures behind the code.
use Rattle.std.specs.Prelude.{◌≡◌, ℕ, ◌+◌, cond, ◌⊎◌, List, [], ◌∷◌, ◌++◌, Some, None, Option, ◌==◌}
use Rattle.terms.specs.Prefix.{Arities}
use Rattle.terms.specs.Question.{Question, AllYes, FirstNo}
use Rattle.book.specs.Meaning.{code, Located, fields_of, signature_of}
use Rattle.book.specs.Places.{place_of}
use Rattle.book.specs.declared.places.Places.{Places}
use Rattle.orders.specs.Figures.{HasField, AllHave}

-- the questions of a field, of a book with a signature, behind the fields `before` of the same tag
abbrev pub Asked : Type 1
Asked = Arities → List Located → Located → List Question

-- each of the fields passes its questions, behind those before it
abbrev pub AllPass : Asked → Arities → List Located → List Located → Type 0
AllPass asked sig before [] = Unit {0}
AllPass asked sig before (l ∷ ls) = AllYes (asked sig before l) × AllPass asked sig (before ++ l ∷ []) ls

-- No question about the fields of a tag says no.
pub record Answered (asked : Asked) (bs : List ℕ) (tag : ℕ) : Type 0 where
  pub all_pass : AllPass asked (signature_of bs) [] (fields_of bs tag)
  pub all_have : AllHave (fields_of bs tag) (fields_of bs 1)

-- The first no, with the number n, is said to the field at the offset `at`;
pub record FieldRefused (asked : Asked) (bs : List ℕ) (tag n at : ℕ) : Type 0 where
  pub before : List Located
  pub field : Located
  pub rest : List Located
  pub fields_are : fields_of bs tag ≡ before ++ field ∷ rest
  pub good : AllPass asked (signature_of bs) [] before
  pub first_no : FirstNo (asked (signature_of bs) before field) n
  pub offset : at ≡ field.offset

-- or, where all fields pass, to the symbol whose field is at the offset `at`, the first for which there is no field.
pub record NoFigures (bs : List ℕ) (tag at : ℕ) : Type 0 where
  pub before : List Located
  pub field : Located
  pub rest : List Located
  pub symbols_are : fields_of bs 1 ≡ before ++ field ∷ rest
  pub good : AllHave (fields_of bs tag) before
  pub no : HasField (code field.field) (fields_of bs tag) → ⊥
  pub offset : at ≡ field.offset

-- The first no has the number n and carries the offset `at`: it is said to a field, or to a symbol by the last question, whose number is `last`.
abbrev pub FiguresRefused : Asked → List ℕ → ℕ → ℕ → ℕ → ℕ → Type 0
FiguresRefused asked bs tag last n at =
    FieldRefused asked bs tag n at ⊎ ((n ≡ last) × AllPass asked (signature_of bs) [] (fields_of bs tag) × NoFigures bs tag at)

-- ── tables of places ──

-- the place of the figures of a code in the bytes, by the first field for it
abbrev pub figure_place : List Located → ℕ → Option ℕ
figure_place [] c = None
figure_place (l ∷ ls) c = cond (code l.field == c) (Some (l.offset + 4)) (figure_place ls c)

-- a table of these places
abbrev pub FigurePlaces : Places → List Located → Type 0
FigurePlaces places ls = (c : ℕ) → place_of places c ≡ figure_place ls c
