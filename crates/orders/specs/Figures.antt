-- What is asked of the fields that give an order its figures, whatever their tag.
use Rattle.std.specs.Prelude.{◌≡◌, ℕ, ◌⊎◌, List, [], ◌∷◌, ◌++◌, None}
use Rattle.terms.specs.Prefix.{Arities}
use Rattle.book.specs.Meaning.{code, Located, fields_of, signature_of}

-- one of the fields is for the code c
abbrev pub HasField : ℕ → List Located → Type 0
HasField c [] = ⊥
HasField c (l ∷ ls) = (code l.field ≡ c) ⊎ HasField c ls

-- the field's code is declared in the book, and no field before it is for that code
pub record FirstFor (sig : Arities) (before : List Located) (l : Located) : Type 0 where
  pub declared : sig (code l.field) ≡ None → ⊥
  pub first : HasField (code l.field) before → ⊥

-- each of the fields is so, behind those before it
abbrev pub AllFirst : Arities → List Located → List Located → Type 0
AllFirst sig before [] = Unit {0}
AllFirst sig before (l ∷ ls) = FirstFor sig before l × AllFirst sig (before ++ l ∷ []) ls

-- for each of the symbols' fields there is one of the fields
abbrev pub AllHave : List Located → List Located → Type 0
AllHave fields [] = Unit {0}
AllHave fields (l ∷ ls) = HasField (code l.field) fields × AllHave fields ls

-- No question about the fields of a tag says no.
pub record Figured (bs : List ℕ) (tag : ℕ) : Type 0 where
  pub all_first : AllFirst (signature_of bs) [] (fields_of bs tag)
  pub all_have : AllHave (fields_of bs tag) (fields_of bs 1)

-- The first no is said to the field at the offset `at`: its code is not declared, or it is not the first for it;
pub record NotFirst (bs : List ℕ) (tag at : ℕ) : Type 0 where
  pub before : List Located
  pub field : Located
  pub rest : List Located
  pub fields_are : fields_of bs tag ≡ before ++ field ∷ rest
  pub good : AllFirst (signature_of bs) [] before
  pub no : FirstFor (signature_of bs) before field → ⊥
  pub offset : at ≡ field.offset

-- or to the symbol whose field is at the offset `at`: there is no field for it.
pub record Missing (bs : List ℕ) (tag at : ℕ) : Type 0 where
  pub all_first : AllFirst (signature_of bs) [] (fields_of bs tag)
  pub before : List Located
  pub field : Located
  pub rest : List Located
  pub symbols_are : fields_of bs 1 ≡ before ++ field ∷ rest
  pub good : AllHave (fields_of bs tag) before
  pub no : HasField (code field.field) (fields_of bs tag) → ⊥
  pub offset : at ≡ field.offset
