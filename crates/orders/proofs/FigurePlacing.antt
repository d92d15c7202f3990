-- Tables of the places of figures: how they grow, and what they tell.
use Rattle.std.proofs.Common.{◌≡◌, ℕ, ◌+◌, true, false, cond, eqb, ◌⊎◌, List, [], ◌∷◌, ◌++◌, Some, None, Option, is_some, sym, refl, ap, ◌∙◌, subst, subst₂, ap₂, inl, inr, append_assoc, append-nil, length, ◌≤◌, MatchOption, arith}
use Rattle.std.proofs.lemmas.Bool.{false≢true, eqb-true, eqb-false, eq-eqb, ne_eqb, cases_Bool}
use Rattle.terms.specs.Prefix.{Arities}
use Rattle.terms.specs.Question.{AllYes, FirstNo}
use Rattle.book.specs.Format.{shape_of}
use Rattle.book.proofs.Pairs.{ValueThere}
use Rattle.book.specs.Meaning.{code, Located, fields_of, fields_from, signature_of}
use Rattle.book.specs.declared.field.Field.{Field}
use Rattle.book.specs.declared.places.Places.{Places}
use Rattle.book.specs.Places.{place_of, Entered}
use Rattle.book.specs.Queries.{located_as}
use Rattle.book.specs.Walks.{HandsOut, fields_left}
use Rattle.book.specs.declared.fields.Fields.{Fields}
use Rattle.orders.specs.Figures.{HasField, AllHave}
use Rattle.orders.specs.FieldQuestions.{Asked, AllPass, FieldRefused, figure_place, FigurePlaces}

pub is_none : {A : Type 0} (o : Option A) → is_some o ≡ false → o ≡ None
is_none (Some x) e = cc
is_none None e = refl

-- ── no place says that there is no field ──

pub no_field : (ls : List Located) (c : ℕ) → figure_place ls c ≡ None → HasField c ls → ⊥
no_field [] c e h = h
no_field (l ∷ ls) c e (inl d) = let some : Some (l.offset + 4) ≡ None = sym (ap (λ b. cond b (Some (l.offset + 4)) (figure_place ls c)) (eq-eqb (code l.field) c d)) ∙ e in cc
no_field (l ∷ ls) c e (inr h) = by (cases_Bool (eqb (code l.field) c)) (λ q. no_field ls c q h)
  where
    by : (eqb (code l.field) c ≡ true) ⊎ (eqb (code l.field) c ≡ false) → (figure_place ls c ≡ None → ⊥) → ⊥
    by (inl d) k = let some : Some (l.offset + 4) ≡ None = sym (ap (λ b. cond b (Some (l.offset + 4)) (figure_place ls c)) d) ∙ e in cc
    by (inr d) k = k (sym (ap (λ b. cond b (Some (l.offset + 4)) (figure_place ls c)) d) ∙ e)

pub no_place : (ls : List Located) (c : ℕ) → (HasField c ls → ⊥) → figure_place ls c ≡ None
no_place [] c n = refl
no_place (l ∷ ls) c n = ap (λ b. cond b (Some (l.offset + 4)) (figure_place ls c)) (ne_eqb (code l.field) c (λ e. n (inl e))) ∙ no_place ls c (λ h. n (inr h))

pub some_field : (ls : List Located) (c : ℕ) → is_some (figure_place ls c) ≡ true → HasField c ls
some_field [] c s = absurd (false≢true s)
some_field (l ∷ ls) c s = by (cases_Bool (eqb (code l.field) c)) (λ q. some_field ls c q)
  where
    by : (eqb (code l.field) c ≡ true) ⊎ (eqb (code l.field) c ≡ false) → (is_some (figure_place ls c) ≡ true → HasField c ls) → HasField c (l ∷ ls)
    by (inl d) k = inl (eqb-true (code l.field) c d)
    by (inr d) k = inr (k (ap (λ b. is_some (cond b (Some (l.offset + 4)) (figure_place ls c))) (sym d) ∙ s))

-- ── one field more ──

push_other : (ls : List Located) (l : Located) (c : ℕ) → eqb (code l.field) c ≡ false → figure_place (ls ++ l ∷ []) c ≡ figure_place ls c
push_other [] l c e = ap (λ b. cond b (Some (l.offset + 4)) None) e
push_other (m ∷ ls) l c e = ap (cond (eqb (code m.field) c) (Some (m.offset + 4))) (push_other ls l c e)

push_new : (ls : List Located) (l : Located) → (HasField (code l.field) ls → ⊥) → figure_place (ls ++ l ∷ []) (code l.field) ≡ Some (l.offset + 4)
push_new [] l n = ap (λ b. cond b (Some (l.offset + 4)) None) (eq-eqb (code l.field) (code l.field) refl)
push_new (m ∷ ls) l n =
    ap (λ b. cond b (Some (m.offset + 4)) (figure_place (ls ++ l ∷ []) (code l.field))) (ne_eqb (code m.field) (code l.field) (λ e. n (inl e)))
    ∙ push_new ls l (λ h. n (inr h))

pub places_push : (old new : Places) (ls : List Located) (l : Located) → (HasField (code l.field) ls → ⊥) → FigurePlaces old ls → Entered old (code l.field) (l.offset + 4) new → FigurePlaces new (ls ++ l ∷ [])
places_push old new ls l n p e c = e c ∙ by (cases_Bool (eqb c (code l.field)))
  where
    by : (eqb c (code l.field) ≡ true) ⊎ (eqb c (code l.field) ≡ false) → cond (eqb c (code l.field)) (Some (l.offset + 4)) (place_of old c) ≡ figure_place (ls ++ l ∷ []) c
    by (inl d) =
        let same = eqb-true c (code l.field) d in
        ap (λ b. cond b (Some (l.offset + 4)) (place_of old c)) d ∙ sym (push_new ls l n) ∙ ap (figure_place (ls ++ l ∷ [])) (sym same)
    by (inr d) =
        let other = eqb-false c (code l.field) d in
        ap (λ b. cond b (Some (l.offset + 4)) (place_of old c)) d ∙ p c ∙ sym (push_other ls l c (ne_eqb (code l.field) c (λ q. other (sym q))))

-- ── one field more passes ──

pub all_pass_push : (asked : Asked) (sig : Arities) (before ls : List Located) (l : Located) → AllPass asked sig before ls → AllYes (asked sig (before ++ ls) l) → AllPass asked sig before (ls ++ l ∷ [])
all_pass_push asked sig before [] l a f = (subst (λ w. AllYes (asked sig w l)) (append-nil before) f, tt)
all_pass_push asked sig before (m ∷ ls) l a f = (a.0, all_pass_push asked sig (before ++ m ∷ []) ls l a.1 (subst (λ w. AllYes (asked sig w l)) (sym (append_assoc before (m ∷ []) ls)) f))

pub all_have_push : (fields ls : List Located) (l : Located) → AllHave fields ls → HasField (code l.field) fields → AllHave fields (ls ++ l ∷ [])
all_have_push fields [] l a h = (h, tt)
all_have_push fields (m ∷ ls) l a h = (a.0, all_have_push fields ls l a.1 h)

-- ── how far the fields have been entered, and the symbols looked up ──

pub record EnteredTo (asked : Asked) (bs : List ℕ) (tag : ℕ) (places : Places) (fields : Fields) : Type 0 where
  pub before : List Located
  pub split : fields_of bs tag ≡ before ++ fields_left fields
  pub passed : AllPass asked (signature_of bs) [] before
  pub placed : FigurePlaces places before

pub record LookedUp (bs : List ℕ) (places : Places) (symbols : Fields) : Type 0 where
  pub before : List Located
  pub split : fields_of bs 1 ≡ before ++ fields_left symbols
  pub have : (tag : ℕ) → FigurePlaces places (fields_of bs tag) → AllHave (fields_of bs tag) before

-- a field of a tag whose values have a byte at least
pub some_byte : (bs : List ℕ) (tag : ℕ) (l : Located) → MatchOption (shape_of tag) ⊥ (λ s. 1 ≤ s.least) → ValueThere bs tag l → 1 ≤ length l.field.value
some_byte bs tag l coded there = by (shape_of tag) refl coded
  where
    by : (o : _) → shape_of tag ≡ o → MatchOption o ⊥ (λ s. 1 ≤ s.least) → 1 ≤ length l.field.value
    by (Some s) e m = omega (arith, m, (there.fits s e).0)
    by None e m = absurd m

-- ── one field further ──

module _ (bs : List ℕ) (tag : ℕ) (s t : Fields) (f : Field) (step : HandsOut s (Some f) t) (before : List Located) (split : fields_of bs tag ≡ before ++ fields_left s) where
  pub next_split : fields_of bs tag ≡ before ++ located_as f ∷ fields_left t
  next_split = split ∙ ap (λ w. before ++ w) (step.answer ∙ ap₂ (λ w k. located_as f ∷ fields_from t.reader.at w k) (sym step.bytes) (sym step.tag))

  pub next_passed : fields_of bs tag ≡ (before ++ located_as f ∷ []) ++ fields_left t
  next_passed = next_split ∙ sym (append_assoc before (located_as f ∷ []) (fields_left t))

  -- the field is the first that does not pass
  pub next_refused : (asked : Asked) → AllPass asked (signature_of bs) [] before → (n : ℕ) → FirstNo (asked (signature_of bs) before (located_as f)) n → (offset : ℕ) → offset ≡ f.offset → FieldRefused asked bs tag n offset
  next_refused asked passed n says offset o = record {
    before = before;
    field = located_as f;
    rest = fields_left t;
    fields_are = next_split;
    good = passed;
    first_no = says;
    offset = o;
  }

pub from_the_start : (bs : List ℕ) (tag : ℕ) (s : Fields) → (s.reader.bytes.now ≡ bs) × (s.tag ≡ tag) × (s.reader.at ≡ 0) → fields_of bs tag ≡ [] ++ fields_left s
from_the_start bs tag s e =
    subst₂ (λ w k. fields_of bs tag ≡ fields_from s.reader.at w k) (sym e.0) (sym e.1)
    (subst (λ n. fields_of bs tag ≡ fields_from n bs tag) (sym e.2) refl)

-- no field is left
pub none_left : (bs : List ℕ) (tag : ℕ) (s t : Fields) → HandsOut s None t → (before : List Located) → fields_of bs tag ≡ before ++ fields_left s → fields_of bs tag ≡ before
none_left bs tag s t step before split = split ∙ ap (λ w. before ++ w) step.answer.0 ∙ append-nil before
