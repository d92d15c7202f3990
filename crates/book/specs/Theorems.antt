-- What is proved of books beside the calls' own contracts; each statement stands on the contract of a function of src/theorems.rt.
use Rattle.std.specs.Prelude.{◌≡◌, ℕ, List, [], ◌∷◌, Some, None, Option}
use Rattle.terms.specs.Term.{var, node, nil, cons}
use Rattle.book.specs.Format.{BookField, book_field, book_bytes, fields}
use Rattle.book.specs.Meaning.{signature_of, rules_of, fields_of}
use Rattle.book.specs.Questions.{Accepted, Refused}

-- fields are read back from their bytes, so bytes are a row of fields in one way
abbrev pub FieldsReadBack : Type 0
FieldsReadBack = (fs : List BookField) → fields (book_bytes fs) ≡ fs

-- no bytes are both a book and refused, and a refusal has one number and one offset
abbrev pub OneVerdict : Type 0
OneVerdict =
    (bs : List ℕ)
    → ((n : ℕ) (o : Option ℕ) → Accepted bs → Refused bs n o → ⊥)
    × ((m n : ℕ) (o p : Option ℕ) → Refused bs m o → Refused bs n p → (m ≡ n) × (o ≡ p))

-- an example: the symbols e (code 1, no arguments) and f (code 2, one argument) and the rule f(f(x)) to f(x)
abbrev pub sample_book : List BookField
sample_book =
    book_field 1 (1 ∷ (0 ∷ []))
    ∷ book_field 1 (2 ∷ (1 ∷ []))
    ∷ book_field 2 (3 ∷ (2 ∷ (2 ∷ (128 ∷ (2 ∷ (128 ∷ []))))))
    ∷ []

-- the same rule before its symbol
abbrev pub early_rule : List BookField
early_rule =
    book_field 2 (3 ∷ (2 ∷ (2 ∷ (128 ∷ (2 ∷ (128 ∷ []))))))
    ∷ book_field 1 (2 ∷ (1 ∷ []))
    ∷ []

-- The definitions hold of something and fail of something.
pub record DefinitionsHoldAndFail : Type 0 where
  pub bytes : book_bytes sample_book ≡ 1 ∷ (0 ∷ (2 ∷ (1 ∷ (0 ∷ (1 ∷ (0 ∷ (2 ∷ (2 ∷ (1 ∷ (2 ∷ (0 ∷ (6 ∷ (3 ∷ (2 ∷ (2 ∷ (128 ∷ (2 ∷ (128 ∷ []))))))))))))))))))
  pub good : Accepted (book_bytes sample_book)
  pub declared : signature_of (book_bytes sample_book) 2 ≡ Some 1
  pub undeclared : signature_of (book_bytes sample_book) 3 ≡ None
  pub rules : rules_of (book_bytes sample_book) ≡ record { left = node 2 (cons (node 2 (cons (var 128) nil)) nil); right = node 2 (cons (var 128) nil) } ∷ []
  pub symbol_offsets : fields_of (book_bytes sample_book) 1 ≡ record { offset = 0; field = book_field 1 (1 ∷ (0 ∷ [])) } ∷ (record { offset = 5; field = book_field 1 (2 ∷ (1 ∷ [])) } ∷ [])
  pub empty : Accepted []
  pub refused : Refused (book_bytes early_rule) 6 (Some 0)
  pub not_accepted : Accepted (book_bytes early_rule) → ⊥
