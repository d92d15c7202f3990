-- How far a book has been read: good fields behind the reader, and their tables.
use Rattle.std.proofs.Common.{◌≡◌, ℕ, suc, ◌+◌, ◌<◌, ◌≤◌, Bool, true, false, cond, eqb, List, [], ◌∷◌, ◌++◌, length, get_or, drop, Some, Option, sym, refl, ap, ◌∙◌, subst, ap₂, inl, inr, append_assoc, append-nil, arith, length-append, length-drop}
use Rattle.std.proofs.lemmas.List.{drop_at, get_or-drop}
use Rattle.terms.specs.Question.{AllYes, FirstNo}
use Rattle.book.specs.declared.fault.Fault.{Fault}
use Rattle.book.specs.declared.tables.Tables.{Tables}
use Rattle.book.specs.Format.{BookField, field_bytes, book_bytes, value_length, fields}
use Rattle.book.specs.Faults.{number_of, offset_of}
use Rattle.book.specs.Meaning.{Located, located, with_tag}
use Rattle.book.specs.Questions.{FieldRead, AtEnd, NotRead, field_questions, questions, Good, Accepted, Refused}
use Rattle.book.specs.Tables.{TablesOf, Laid, Holds}
use Rattle.book.proofs.FieldBytes.{fields_back, bytes_back, few_fields}
use Rattle.book.proofs.Entering.{good_push}

-- the reader has come to `at`, and the tables are those of the fields before
pub record Progress (bs : List ℕ) (t : Tables) (at : ℕ) : Type 0 where
  pub before : List BookField
  pub laid : Laid bs before
  pub tables : TablesOf t before
  pub reached : at ≡ length (book_bytes before)
  pub bytes_are : t.bytes.now ≡ bs

book_bytes_push : (fs : List BookField) (f : BookField) → book_bytes (fs ++ f ∷ []) ≡ book_bytes fs ++ field_bytes f
book_bytes_push [] f = append-nil (field_bytes f)
book_bytes_push (g ∷ fs) f = ap (λ w. field_bytes g ++ w) (book_bytes_push fs f) ∙ sym (append_assoc (field_bytes g) (book_bytes fs) (field_bytes f))

few_with : (tag : ℕ) (ls : List Located) → length (with_tag tag ls) ≤ length ls
few_with tag [] = omega arith
few_with tag (l ∷ ls) = by (eqb l.field.tag tag) (few_with tag ls)
  where
    by : (b : Bool) → length (with_tag tag ls) ≤ length ls → length (cond b (l ∷ with_tag tag ls) (with_tag tag ls)) ≤ suc (length ls)
    by true h = omega arith
    by false h = omega arith

many_located : (at : ℕ) (fs : List BookField) → length (located at fs) ≡ length fs
many_located at [] = refl
many_located at (f ∷ fs) = omega (arith, many_located (at + length (field_bytes f)) fs)

module _ (bs : List ℕ) (t : Tables) (at : ℕ) (p : Progress bs t at) where
  rest_is : drop at bs ≡ p.laid.rest
  rest_is = ap₂ drop p.reached (sym p.laid.form) ∙ drop_at (book_bytes p.before) p.laid.rest (length (book_bytes p.before)) refl

  form : book_bytes p.before ++ drop at bs ≡ bs
  form = ap (λ w. book_bytes p.before ++ w) rest_is ∙ p.laid.form

  pub laid_here : Laid t.bytes.now p.before
  laid_here = subst (λ w. Laid w p.before) (sym p.bytes_are) p.laid

  pub inside : at ≤ 4096
  inside = omega (arith, p.reached, p.laid.short, ap length p.laid.form, length-append (book_bytes p.before) p.laid.rest)

  -- there are fewer symbols than bytes
  pub few_symbols : t.symbols ≤ 4096
  few_symbols = omega (arith, inside, p.reached, p.tables.symbols_are, few_with 1 (located 0 p.before), many_located 0 p.before, few_fields p.before)

  -- one field more
  pub progress_more : ((i : ℕ) → get_or bs i 0 < 256) → (offset : ℕ) (f : BookField) (then : ℕ) → FieldRead bs at offset f then → AllYes (field_questions p.before f) → (t' : Tables) → TablesOf t' (p.before ++ f ∷ []) → t'.bytes.now ≡ bs → Progress bs t' then
  progress_more small offset f then r passed t' tables same =
      let rest = drop at bs in
      let byte : get_or rest 2 0 < 256 = subst (λ v. v < 256) (sym (get_or-drop at bs 2 0)) (small (at + 2)) in
      let split : field_bytes f ++ drop (3 + value_length rest) rest ≡ rest = ap (λ g. field_bytes g ++ drop (3 + value_length rest) rest) r.field_is ∙ bytes_back rest byte r.whole in
      let all : book_bytes (p.before ++ f ∷ []) ++ drop (3 + value_length rest) rest ≡ bs =
      ap (λ w. w ++ drop (3 + value_length rest) rest) (book_bytes_push p.before f)
      ∙ append_assoc (book_bytes p.before) (field_bytes f) (drop (3 + value_length rest) rest)
      ∙ ap (λ w. book_bytes p.before ++ w) split
      ∙ form in
      let long : length (field_bytes f ++ drop (3 + value_length rest) rest) ≡ length rest = ap length split in
      record {
        before = p.before ++ f ∷ [];
        laid = record { short = p.laid.short; rest = drop (3 + value_length rest) rest; form = all; good = good_push [] p.before f p.laid.good passed };
        tables = tables;
        reached = omega (arith, r.goes_on, p.reached, r.whole, long, length-append (field_bytes f) (drop (3 + value_length rest) rest), length-drop (3 + value_length rest) rest, ap length (book_bytes_push p.before f), length-append (book_bytes p.before) (field_bytes f));
        bytes_are = same;
      }

  -- nothing is left
  pub progress_end : (then : ℕ) → AtEnd bs at then → Accepted bs × Holds t
  progress_end then e =
      let all : book_bytes p.before ≡ bs = sym (append-nil (book_bytes p.before)) ∙ ap (λ w. book_bytes p.before ++ w) (sym e.nothing) ∙ form in
      let row : book_bytes p.before ≡ t.bytes.now = all ∙ sym p.bytes_are in
      let same : p.before ≡ fields t.bytes.now = sym (fields_back p.before) ∙ ap fields row in (
        record { short = p.laid.short; contents = p.before; form = all; good = p.laid.good },
        record {
          short = laid_here.short;
          row = ap book_bytes (sym same) ∙ row;
          good = subst (Good []) same p.laid.good;
          tabled = subst (TablesOf t) same p.tables;
        },
      )

  refused_with : (n : ℕ) (o : Option ℕ) → o ≡ Some at → 0 < length (drop at bs) → FirstNo (questions p.before (drop at bs)) n → Refused bs n o
  refused_with n o e more first =
      subst (Refused bs n) (sym e)
      (record { short = p.laid.short; before = p.before; rest = drop at bs; form = form; good = p.laid.good; more = more; offset = p.reached; first_no = first })

  -- the bytes left are no whole field
  pub refused_cut : (e : Fault) (then : ℕ) → NotRead bs at e then → Refused bs (number_of e) (offset_of e)
  refused_cut e then r = refused_with (number_of e) (offset_of e) r.offset r.more (inl (r.no_field, r.number))

  -- a question of the next field says no
  pub refused_field : (offset : ℕ) (f : BookField) (then : ℕ) (e : Fault) → FieldRead bs at offset f then → offset_of e ≡ Some offset → FirstNo (field_questions p.before f) (number_of e) → Refused bs (number_of e) (offset_of e)
  refused_field offset f then e r o first =
      refused_with (number_of e) (offset_of e) (o ∙ ap {B = Option ℕ} Some r.offset_is) (omega (arith, r.whole))
      (inr (r.whole, subst (λ g. FirstNo (field_questions p.before g) (number_of e)) r.field_is first))
