-- What the fields of a book mean: its signature, its rules, and the fields of each tag with their offsets.
use Rattle.std.specs.Prelude.{ℕ, ◌+◌, Bool, cond, ◌&&◌, List, [], ◌∷◌, map, length, take, drop, Some, None, ◌==◌, slice_index}
use Rattle.terms.specs.Term.{Rule}
use Rattle.terms.specs.Prefix.{Arities, term_of}
use Rattle.book.specs.Format.{BookField, field_bytes, fields}

-- a symbol's field: its code and its arity
abbrev pub code : BookField → ℕ
code f = slice_index f.value 0

abbrev pub arity : BookField → ℕ
arity f = slice_index f.value 1

-- the field declares the symbol with the code c
abbrev pub declares : ℕ → BookField → Bool
declares c f = f.tag == 1 && code f == c

-- the signature that the fields declare
abbrev pub signature : List BookField → Arities
signature [] c = None
signature (f ∷ fs) c = cond (declares c f) (Some (arity f)) (signature fs c)

-- a rule's field: the bytes of its left side, whose length stands first, and of its right side
abbrev pub left_side : BookField → List ℕ
left_side f = take (slice_index f.value 0) (drop 1 f.value)

abbrev pub right_side : BookField → List ℕ
right_side f = drop (1 + slice_index f.value 0) f.value

abbrev pub rule_of : Arities → BookField → Rule
rule_of sig f = record { left = term_of sig (left_side f); right = term_of sig (right_side f) }

-- a field with its offset in the book
pub record Located : Type 0 where
  pub offset : ℕ
  pub field : BookField

abbrev pub located : ℕ → List BookField → List Located
located at [] = []
located at (f ∷ fs) = record { offset = at; field = f } ∷ located (at + length (field_bytes f)) fs

-- the fields with one tag, in file order
abbrev pub with_tag : ℕ → List Located → List Located
with_tag tag [] = []
with_tag tag (l ∷ ls) = cond (l.field.tag == tag) (l ∷ with_tag tag ls) (with_tag tag ls)

-- the fields of a tag behind the offset `at`, up to which the book is read
abbrev pub fields_from : ℕ → List ℕ → ℕ → List Located
fields_from at bs tag = with_tag tag (located at (fields (drop at bs)))

-- The meaning of a book's bytes: its signature,
abbrev pub signature_of : List ℕ → Arities
signature_of bs = signature (fields bs)

-- its fields of a tag, with their offsets (1 symbols, 2 rules, 3 polynomials and 4 ranks, which are the figures of an order, 5 joinings),
abbrev pub fields_of : List ℕ → ℕ → List Located
fields_of bs tag = with_tag tag (located 0 (fields bs))

-- and its rules, in file order and numbered from 0, as pairs of terms.
abbrev pub rules_of : List ℕ → List Rule
rules_of bs = map (λ l. rule_of (signature_of bs) l.field) (fields_of bs 2)
