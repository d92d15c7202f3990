-- Going over the fields of one tag.
use Rattle.std.proofs.Common.{◌≡◌, ℕ, ◌+◌, ◌<◌, ◌≤◌, Bool, true, false, cond, eqb, List, [], ◌∷◌, ◌++◌, length, drop, Some, None, Ok, Err, Option, Result, sym, refl, ap, ◌∙◌, subst, ap₂, arith, length-append, length-drop}
use Rattle.std.proofs.lemmas.List.{drop-drop}
use Rattle.std.proofs.lemmas.Bool.{eqb-true, eq-eqb}
use Rattle.book.specs.declared.fault.Fault.{Fault}
use Rattle.std.specs.Iterator.{MakesProgress, item_count}
use Rattle.book.specs.declared.field.Field.{Field}
use Rattle.book.specs.declared.fields.Fields.{Fields}
use Rattle.book.specs.Walks.{HandsOut, fields_left}
use Rattle.book.specs.Views.{meant, ReaderGives}
use Rattle.book.specs.Format.{BookField, field_bytes, book_bytes, value_length, field_at, fields, Row}
use Rattle.book.specs.Meaning.{located, with_tag, fields_from}
use Rattle.book.specs.Questions.{Whole, FieldRead, AtEnd, NotRead}
use Rattle.book.proofs.FieldBytes.{length_back, field_back, rest_back, fields_back}

-- a row of fields begins with its first field, and goes on with a row
pub record Begun (rest : List ℕ) : Type 0 where
  pub first : BookField
  pub later : List BookField
  pub are : fields rest ≡ first ∷ later
  pub form : field_bytes first ++ book_bytes later ≡ rest

begun : (rest : List ℕ) → Row rest → 0 < length rest → Begun rest
begun rest row more = by (fields rest) refl
  where
    by : (fs : List BookField) → fields rest ≡ fs → Begun rest
    by [] e = absurd (omega (arith, ap length (sym row ∙ ap book_bytes e)))
    by (f ∷ fs) e = record { first = f; later = fs; are = e; form = ap book_bytes (sym e) ∙ row }

module _ (bs : List ℕ) (at : ℕ) (row : Row (drop at bs)) where
  pub row_not_cut : (e : Fault) (then : ℕ) → NotRead bs at e then → ⊥
  row_not_cut e then r =
      let b = begun (drop at bs) row r.more in
      r.no_field (subst Whole b.form (omega (arith, length_back b.first (book_bytes b.later), length-append (field_bytes b.first) (book_bytes b.later))))

  module _ (offset : ℕ) (f : BookField) (then : ℕ) (r : FieldRead bs at offset f then) where
    begins : Begun (drop at bs)
    begins = begun (drop at bs) row (omega (arith, r.whole))

    first_is : begins.first ≡ f
    first_is = sym (field_back begins.first (book_bytes begins.later)) ∙ ap field_at begins.form ∙ sym r.field_is

    rest_is : drop then bs ≡ book_bytes begins.later
    rest_is =
        ap (λ n. drop n bs) r.goes_on
        ∙ sym (drop-drop (3 + value_length (drop at bs)) at bs)
        ∙ ap (λ w. drop (3 + value_length w) w) (sym begins.form)
        ∙ rest_back begins.first (book_bytes begins.later)

    later_is : fields (drop then bs) ≡ begins.later
    later_is = ap fields rest_is ∙ fields_back begins.later

    pub row_more : Row (drop then bs)
    row_more = ap book_bytes later_is ∙ sym rest_is

    then_is : at + length (field_bytes begins.first) ≡ then
    then_is =
        omega (arith, r.goes_on, length_back begins.first (book_bytes begins.later), ap value_length begins.form)

    goes : located at (fields (drop at bs)) ≡ record { offset = at; field = f } ∷ located then (fields (drop then bs))
    goes =
        ap (located at) begins.are
        ∙ ap₂ (λ g n. record { offset = at; field = g } ∷ located n begins.later) first_is then_is
        ∙ ap (λ fs. record { offset = at; field = f } ∷ located then fs) (sym later_is)

    pub found_next : (tag : ℕ) → f.tag ≡ tag → fields_from at bs tag ≡ record { offset = offset; field = f } ∷ fields_from then bs tag
    found_next tag e =
        ap (with_tag tag) goes
        ∙ ap (λ b. cond b (record { offset = at; field = f } ∷ fields_from then bs tag) (fields_from then bs tag)) (eq-eqb f.tag tag e)
        ∙ ap (λ o. record { offset = o; field = f } ∷ fields_from then bs tag) (sym r.offset_is)

    pub passed_over : (tag : ℕ) → (f.tag ≡ tag → ⊥) → fields_from at bs tag ≡ fields_from then bs tag
    passed_over tag n = ap (with_tag tag) goes ∙ by (eqb f.tag tag) refl
      where
        by : (b : Bool) → eqb f.tag tag ≡ b → cond b (record { offset = at; field = f } ∷ fields_from then bs tag) (fields_from then bs tag) ≡ fields_from then bs tag
        by true e = absurd (n (eqb-true f.tag tag e))
        by false e = refl

  pub none_left : (then : ℕ) → at ≤ length bs → AtEnd bs at then → (tag : ℕ) → (fields_from at bs tag ≡ []) × (then ≡ length bs)
  none_left then inside e tag = (
    ap (λ w. with_tag tag (located at (fields w))) e.nothing,
    omega (arith, e.stays, ap length e.nothing, length-drop at bs),
  )

  -- whatever the reader answers, it stays at a row of fields
  pub row_kept : (r : Result (Option Field) Fault) (then : ℕ) → ReaderGives bs at r then → Row (drop then bs)
  row_kept (Ok (Some f)) then a = row_more f.offset (meant f) then a
  row_kept (Ok None) then a = subst (λ n. Row (drop n bs)) (sym a.stays) row
  row_kept (Err e) then a = subst (λ n. Row (drop n bs)) (sym a.stays) row

-- each field that is handed out is one less that is left
pub goes_on : (can : Fields → Type 0) → ((t : Fields) → can t) → (s t : Fields) (found : Option Field) → HandsOut s found t → MakesProgress can (item_count fields_left) s found t
goes_on can always s t None h = record { on = λ _. tt; keeps = tt; rests = λ _. tt }
goes_on can always s t (Some f) h =
    let left = ap₂ (λ w n. length (fields_from t.reader.at w n)) h.bytes h.tag in
    record { on = λ _. (always t, tt, omega (arith, ap length h.answer, left)); keeps = always t; rests = λ _. tt }
