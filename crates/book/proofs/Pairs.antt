-- Where the values of fields stand in the bytes of a book; of a value that is a code and one byte more, that byte.
use Rattle.std.proofs.Common.{◌≡◌, ℕ, ◌+◌, ◌-◌, ◌%◌, ◌<◌, ◌≤◌, Bool, true, false, cond, ◌&&◌, eqb, ltb, List, [], ◌∷◌, ◌++◌, length, get_or, take, drop, Some, None, sym, refl, ap, ◌∙◌, subst, arith, length-append, MatchOption}
use mathlib.Core.Logic.{∥∥₁_elim}
use native.Mathlib.Bridge.{le_prop}
use native.Mathlib.Nat.{ℕ_set}
use Rattle.std.proofs.lemmas.List.{get_or_at, drop_at, drop-drop, take_at}
use Rattle.std.proofs.lemmas.Bool.{eqb-true, ltb-true}
use Rattle.terms.proofs.Sorts.{option_set, bytes_set}
use Rattle.book.specs.declared.shape.Shape.{Shape}
use Rattle.book.specs.Format.{BookField, field_bytes, book_bytes, fields, exactly, shape_of, FitsShape, value_length}
use Rattle.book.specs.Meaning.{code, arity, signature, Located, fields_of, signature_of}
use Rattle.book.specs.Questions.{Good}
use Rattle.book.specs.declared.tables.Tables.{Tables}
use Rattle.book.specs.Tables.{byte_at, Holds}
use Rattle.book.proofs.Entering.{arity_byte, good_shaped, high_none}
use Rattle.book.proofs.FieldBytes.{length_back}
use Rattle.book.proofs.Held.{nth}
use Rattle.book.proofs.RuleSides.{good_at, book_bytes_append}

-- the value has two bytes, and the second stands four bytes behind the field's offset
pub record Pair (bs : List ℕ) (l : Located) : Type 0 where
  pub two : length l.field.value ≡ 2
  pub inside : l.offset + 4 < length bs
  pub second : get_or bs (l.offset + 4) 0 ≡ get_or l.field.value 1 0

-- the value of a field fits its tag, and stands three bytes behind the field's offset, where its length is told
pub record ValueThere (bs : List ℕ) (tag : ℕ) (l : Located) : Type 0 where
  pub fits : (s : Shape) → shape_of tag ≡ Some s → FitsShape s (length l.field.value)
  pub counted : value_length (drop l.offset bs) ≡ length l.field.value
  pub inside : (l.offset + 3) + length l.field.value ≤ length bs
  pub value_is : take (length l.field.value) (drop (l.offset + 3) bs) ≡ l.field.value

fits_prop : (s : Shape) (n : ℕ) → IsProp (FitsShape s n)
fits_prop s n a b = λ k. (le_prop a.0 b.0 k, le_prop a.1 b.1 k, ℕ_set ((n - s.least) % s.step) 0 a.2 b.2 k)

few_arguments : (before fs : List BookField) (c n : ℕ) → Good before fs → signature fs c ≡ Some n → n ≤ 3
few_arguments before [] c n g e = let z : ◌≡◌ {A = ℕ} 0 1 = cc in absurd (omega arith)
few_arguments before (f ∷ fs) c n g e = by (eqb f.tag 1) (eqb (code f) c) refl e (few_arguments (before ++ f ∷ []) fs c n g.1)
  where
    by : (b d : Bool) → eqb f.tag 1 ≡ b → cond (b && d) (Some (arity f)) (signature fs c) ≡ Some n → (signature fs c ≡ Some n → n ≤ 3) → n ≤ 3
    by true true t q later = let few = (g.0.1.1.0 (eqb-true f.tag 1 t)).few in let same : arity f ≡ n = cc in omega (arith, few, same)
    by true false t q later = later q
    by false d t q later = later q

there : (bs : List ℕ) (p v : ℕ) → byte_at bs p ≡ Some v → (p < length bs) × (get_or bs p 0 ≡ v)
there bs p v e = by (ltb p (length bs)) refl e
  where
    by : (b : Bool) → ltb p (length bs) ≡ b → cond b (Some (get_or bs p 0)) None ≡ Some v → (p < length bs) × (get_or bs p 0 ≡ v)
    by true t d = (ltb-true p (length bs) t, cc)
    by false t d = let z : ◌≡◌ {A = ℕ} 0 1 = cc in absurd (omega arith)

exact_length : (n : ℕ) → FitsShape (exactly 2) n → n ≡ 2
exact_length n f = omega (arith, f.0, f.1)

module _ (t : Tables) where
  abbrev bs : List ℕ
  bs = t.bytes.now

  pair_of : (tag : ℕ) → shape_of tag ≡ Some (exactly 2) → (before rest : List Located) (l : Located) → fields_of bs tag ≡ before ++ l ∷ rest → Holds t → Pair bs l
  pair_of tag shape before rest l e h =
      let n = nth tag 0 (fields bs) (length before) l (omega (arith, ap length e, length-append before (l ∷ rest))) in
      let f = n.field in
      let is : l ≡ record { offset = 0 + length (book_bytes n.pre); field = f } = sym (ap (λ w. get_or w (length before) l) e ∙ get_or_at before l rest l (length before) refl) ∙ n.is in
      let form : book_bytes n.pre ++ (field_bytes f ++ book_bytes n.post) ≡ bs = sym (book_bytes_append n.pre (f ∷ n.post)) ∙ ap book_bytes (sym n.splits) ∙ h.row in
      let passed = good_at [] n.pre n.post f (subst (Good []) n.splits h.good) in
      let fits = subst (λ o. MatchOption o ⊥ (λ s. FitsShape s (length f.value))) (ap shape_of n.tag_is ∙ shape) passed.1.0 in
      let two : length f.value ≡ 2 = exact_length (length f.value) fits in
      let byte = there bs ((0 + length (book_bytes n.pre)) + 4) (arity f) (arity_byte bs 0 (book_bytes n.pre) (0 + length (book_bytes n.pre)) f (book_bytes n.post) (omega arith) form two) in
      subst (Pair bs) (sym is) (record { two = two; inside = byte.0; second = byte.1 })

  pub held_pair : (tag : ℕ) → shape_of tag ≡ Some (exactly 2) → (before rest : List Located) (l : Located) → fields_of bs tag ≡ before ++ l ∷ rest → ∥ Holds t ∥₁ → Pair bs l
  held_pair tag shape before rest l e held = record {
    two = ∥∥₁_elim held (ℕ_set (length l.field.value) 2) (λ h. (pair_of tag shape before rest l e h).two);
    inside = ∥∥₁_elim held le_prop (λ h. (pair_of tag shape before rest l e h).inside);
    second = ∥∥₁_elim held (ℕ_set (get_or bs (l.offset + 4) 0) (get_or l.field.value 1 0)) (λ h. (pair_of tag shape before rest l e h).second);
  }

  -- a book is short
  pub held_short : ∥ Holds t ∥₁ → length bs ≤ 4096
  held_short held = ∥∥₁_elim held le_prop (λ h. h.short)

  -- only bytes below 80 are codes
  pub held_codes : ∥ Holds t ∥₁ → (c : ℕ) → 128 ≤ c → signature_of bs c ≡ None
  held_codes held c h = ∥∥₁_elim held (option_set (signature_of bs c) None) (λ held. high_none c (fields bs) (good_shaped [] (fields bs) held.good) h)

  -- ── the value of any field ──

  value_of : (tag : ℕ) (before rest : List Located) (l : Located) → fields_of bs tag ≡ before ++ l ∷ rest → Holds t → ValueThere bs tag l
  value_of tag before rest l e h =
      let n = nth tag 0 (fields bs) (length before) l (omega (arith, ap length e, length-append before (l ∷ rest))) in
      let f = n.field in
      let is : l ≡ record { offset = 0 + length (book_bytes n.pre); field = f } = sym (ap (λ w. get_or w (length before) l) e ∙ get_or_at before l rest l (length before) refl) ∙ n.is in
      let form : book_bytes n.pre ++ (field_bytes f ++ book_bytes n.post) ≡ bs = sym (book_bytes_append n.pre (f ∷ n.post)) ∙ ap book_bytes (sym n.splits) ∙ h.row in
      let at_it : drop (0 + length (book_bytes n.pre)) bs ≡ field_bytes f ++ book_bytes n.post =
      ap (drop (0 + length (book_bytes n.pre))) (sym form) ∙ drop_at (book_bytes n.pre) (field_bytes f ++ book_bytes n.post) (0 + length (book_bytes n.pre)) (omega arith) in
      let passed = good_at [] n.pre n.post f (subst (Good []) n.splits h.good) in
      let counted : value_length (drop (0 + length (book_bytes n.pre)) bs) ≡ length f.value = ap value_length at_it ∙ length_back f (book_bytes n.post) in
      subst (ValueThere bs tag) (sym is)
      (record {
        fits = λ s shape. subst (λ o. MatchOption o ⊥ (λ s. FitsShape s (length f.value))) (ap shape_of n.tag_is ∙ shape) passed.1.0;
        counted = counted;
        inside = omega (arith, ap length form, length-append (book_bytes n.pre) (field_bytes f ++ book_bytes n.post), length-append (field_bytes f) (book_bytes n.post));
        value_is = ap (λ w. take (length f.value) w) (sym (drop-drop 3 (0 + length (book_bytes n.pre)) bs) ∙ ap (drop 3) at_it) ∙ take_at f.value (book_bytes n.post) (length f.value) refl;
      })

  pub held_value : (tag : ℕ) (before rest : List Located) (l : Located) → fields_of bs tag ≡ before ++ l ∷ rest → ∥ Holds t ∥₁ → ValueThere bs tag l
  held_value tag before rest l e held = record {
    fits = λ s shape. ∥∥₁_elim held (fits_prop s (length l.field.value)) (λ h. (value_of tag before rest l e h).fits s shape);
    counted = ∥∥₁_elim held (ℕ_set (value_length (drop l.offset bs)) (length l.field.value)) (λ h. (value_of tag before rest l e h).counted);
    inside = ∥∥₁_elim held le_prop (λ h. (value_of tag before rest l e h).inside);
    value_is = ∥∥₁_elim held (bytes_set (take (length l.field.value) (drop (l.offset + 3) bs)) l.field.value) (λ h. (value_of tag before rest l e h).value_is);
  }

  -- no symbol has more than three arguments
  pub held_arities : ∥ Holds t ∥₁ → (c n : ℕ) → signature_of bs c ≡ Some n → n ≤ 3
  held_arities held c n e = ∥∥₁_elim held le_prop (λ h. few_arguments [] (fields bs) c n h.good e)
