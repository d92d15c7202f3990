-- The bytes of a book: fields one after the other, each a tag, the length of its value in two bytes, high byte first, and its value.
use Rattle.std.specs.Prelude.{◌≡◌, ℕ, zero, suc, ◌+◌, ◌-◌, ◌*◌, ◌/◌, ◌%◌, ◌≤◌, cond, List, [], ◌∷◌, ◌++◌, length, take, drop, Some, None, Option, ◌==◌, slice_index}
use Rattle.book.specs.declared.shape.Shape.{Shape}

-- a field
pub record BookField : Type 0 where
  pub tag : ℕ
  pub value : List ℕ

abbrev pub book_field : ℕ → List ℕ → BookField
book_field tag value = record { tag = tag; value = value }

abbrev pub field_bytes : BookField → List ℕ
field_bytes f = f.tag ∷ (length f.value / 256) ∷ (length f.value % 256) ∷ f.value

abbrev pub book_bytes : List BookField → List ℕ
book_bytes [] = []
book_bytes (f ∷ fs) = field_bytes f ++ book_bytes fs

-- The tags, and which lengths a value may have: from the least to the most, in steps.
abbrev pub exactly : ℕ → Shape
exactly n = record { least = n; most = n; step = 1 }

abbrev pub shapes : List (ℕ × Shape)
shapes =
    (1, exactly 2)  -- symbol: code, arity
    ∷ (2, record { least = 3; most = 65; step = 1 })  -- rule: length of the left side, left side, right side
    ∷ (3, record { least = 8; most = 57; step = 7 })  -- polynomial: code, 1 to 8 monomials of 7 bytes
    ∷ (4, exactly 2)  -- rank: code, rank
    ∷ (5, record { least = 4; most = 260; step = 1 })  -- joining: i, p, j, number of outer steps, steps of 2 bytes
    ∷ []

abbrev pub looked_up : ℕ → List (ℕ × Shape) → Option Shape
looked_up tag [] = None
looked_up tag (row ∷ rows) = cond (tag == row.0) (Some row.1) (looked_up tag rows)

abbrev pub shape_of : ℕ → Option Shape
shape_of tag = looked_up tag shapes

-- a value of n bytes has the shape
abbrev pub FitsShape : Shape → ℕ → Type 0
FitsShape s n = (s.least ≤ n) × (n ≤ s.most) × ((n - s.least) % s.step ≡ 0)

-- what the first three bytes say of the length of the first value
abbrev pub value_length : List ℕ → ℕ
value_length bs = 256 * slice_index bs 1 + slice_index bs 2

-- the field that begins the bytes, where they are long enough for it
abbrev pub field_at : List ℕ → BookField
field_at bs = book_field (slice_index bs 0) (take (value_length bs) (drop 3 bs))

-- the first k fields of the bytes
abbrev pub first_fields : ℕ → List ℕ → List BookField
first_fields zero bs = []
first_fields (suc k) [] = []
first_fields (suc k) (b ∷ bs) = field_at (b ∷ bs) ∷ first_fields k (drop (3 + value_length (b ∷ bs)) (b ∷ bs))

-- all fields: each has at least three bytes, so there are not more of them than bytes
abbrev pub fields : List ℕ → List BookField
fields bs = first_fields (length bs) bs

-- the bytes are a row of whole fields
abbrev pub Row : List ℕ → Type 0
Row bs = book_bytes (fields bs) ≡ bs
