-- What a table of the places of polynomials tells, and that the polynomials of a book are a proper interpretation of its symbols.
use Rattle.std.proofs.Common.{◌≡◌, ℕ, zero, suc, ◌+◌, ◌-◌, ◌*◌, ◌/◌, ◌≤◌, Bool, true, false, cond, ◌&&◌, eqb, ◌⊎◌, List, [], ◌∷◌, ◌++◌, length, get_or, take, drop, Some, None, unwrap_or, sym, refl, ap, ◌∙◌, subst, ap₂, inl, inr, append_assoc, mod-lt, arith, length-append, length-drop}
use native.Mathlib.Nat.{div-add-mod}
use Rattle.std.proofs.lemmas.List.{drop-drop, drop-take}
use Rattle.std.proofs.lemmas.Bool.{eqb-true, eq-eqb, cases_Bool}
use Rattle.terms.specs.Prefix.{Arities}
use Rattle.terms.specs.Question.{AllYes}
use Rattle.book.specs.Format.{BookField, field_bytes, fields, value_length}
use Rattle.book.specs.Meaning.{code, arity, signature, Located, located, with_tag, fields_of, signature_of}
use Rattle.book.specs.Places.{place_of}
use Rattle.book.specs.declared.places.Places.{Places}
use Rattle.book.proofs.FieldBytes.{length_there}
use Rattle.book.proofs.Pairs.{ValueThere}
use Rattle.polynomials.specs.Polynomial.{Polynomial, degree}
use Rattle.polynomials.specs.Coding.{monomials_at, polynomial_from}
use Rattle.polynomials.specs.Interpretation.{Positive, ProperFor, Proper}
use Rattle.orders.specs.Figures.{HasField, AllHave}
use Rattle.orders.specs.FieldQuestions.{AllPass, Answered, figure_place, FigurePlaces}
use Rattle.orders.specs.Polynomials.{monomials_in, monomials_by, interpretation_of, MonomialsFit, HasArguments, polynomial_questions, length_before, monomials_from, monomials_of, Whole}

-- ── the monomials at a place ──

module _ (bs : List ℕ) (l : Located) (there : ValueThere bs 3 l) where
  at_least : 8 ≤ length l.field.value
  at_least = (there.fits _ refl).0

  back : (l.offset + 4) - 4 ≡ l.offset
  back = omega arith

  counts : length_before bs (l.offset + 4) ≡ length l.field.value
  counts = ap (λ o. value_length (drop o bs)) back ∙ there.counted

  monomials_there : monomials_from bs (Some (l.offset + 4)) ≡ monomials_in l.field
  monomials_there =
      let n : length l.field.value ≡ 1 + (length l.field.value - 1) = omega (arith, at_least) in
      let o : l.offset + 3 + 1 ≡ l.offset + 4 = omega arith in
      ap₂ (λ n w. take (n - 1) w) counts (ap (λ o. drop o bs) (sym o) ∙ sym (drop-drop 1 (l.offset + 3) bs))
      ∙ sym (drop-take 1 (length l.field.value - 1) (drop (l.offset + 3) bs))
      ∙ ap (λ n. drop 1 (take n (drop (l.offset + 3) bs))) (sym n)
      ∙ ap (drop 1) there.value_is

  whole_there : Whole bs (l.offset + 4)
  whole_there = (omega arith, omega (arith, counts, at_least), omega (arith, counts, at_least, there.inside))

abbrev pub AllThere : List ℕ → List Located → Type 0
AllThere bs full = (before rest : List Located) (l : Located) → full ≡ before ++ l ∷ rest → ValueThere bs 3 l

monomials_of_place : (bs : List ℕ) (c : ℕ) (pre ls full : List Located) → full ≡ pre ++ ls → AllThere bs full → monomials_from bs (figure_place ls c) ≡ monomials_by ls c
monomials_of_place bs c pre [] full e p = refl
monomials_of_place bs c pre (l ∷ ls) full e p =
    by (eqb (code l.field) c) (monomials_of_place bs c (pre ++ l ∷ []) ls full (e ∙ sym (append_assoc pre (l ∷ []) ls)) p)
  where
    by : (b : Bool) → monomials_from bs (figure_place ls c) ≡ monomials_by ls c → monomials_from bs (cond b (Some (l.offset + 4)) (figure_place ls c)) ≡ cond b (monomials_in l.field) (monomials_by ls c)
    by true h = monomials_there bs l (p pre ls l e)
    by false h = h

whole_of_place : (bs : List ℕ) (c p : ℕ) (pre ls full : List Located) → full ≡ pre ++ ls → AllThere bs full → figure_place ls c ≡ Some p → Whole bs p
whole_of_place bs c p pre [] full e t n = cc
whole_of_place bs c p pre (l ∷ ls) full e t n =
    by (eqb (code l.field) c) n (whole_of_place bs c p (pre ++ l ∷ []) ls full (e ∙ sym (append_assoc pre (l ∷ []) ls)) t)
  where
    by : (b : Bool) → cond b (Some (l.offset + 4)) (figure_place ls c) ≡ Some p → (figure_place ls c ≡ Some p → Whole bs p) → Whole bs p
    by true m h = let q : l.offset + 4 ≡ p = cc in subst (Whole bs) q (whole_there bs l (t pre ls l e))
    by false m h = h m

module _ (bs : List ℕ) (places : Places) (placed : FigurePlaces places (fields_of bs 3)) (there : AllThere bs (fields_of bs 3)) where
  pub places_whole : (c p : ℕ) → place_of places c ≡ Some p → Whole bs p
  places_whole c p n = whole_of_place bs c p [] (fields_of bs 3) (fields_of bs 3) refl there (sym (placed c) ∙ n)

  pub places_tell : (c : ℕ) → monomials_of bs places c ≡ monomials_by (fields_of bs 3) c
  places_tell c = ap (monomials_from bs) (placed c) ∙ monomials_of_place bs c [] (fields_of bs 3) (fields_of bs 3) refl there

-- the length as it is read from two bytes
pub length_read : (bs : List ℕ) (p : ℕ) → 4 ≤ p → 256 * get_or bs (p - 3) 0 + get_or bs (p - 2) 0 ≡ length_before bs p
length_read bs p h =
    let a : p - 3 ≡ p - 4 + 1 = omega arith in
    let b : p - 2 ≡ p - 4 + 2 = omega arith in
    ap₂ (λ i j. 256 * get_or bs i 0 + get_or bs j 0) a b ∙ sym (length_there bs (p - 4) (256 * get_or bs (p - 4 + 1) 0 + get_or bs (p - 4 + 2) 0) refl)

-- ── a proper interpretation ──

positive : (n : ℕ) (before p : Polynomial) → MonomialsFit n before p → Positive p
positive n before [] f = tt
positive n before (m ∷ p) f = (f.0.least, positive n (before ++ m ∷ []) p f.1)

nowhere : (n : ℕ) (before p : Polynomial) → MonomialsFit n before p → (i : ℕ) → n ≤ i → degree i p ≡ 0
nowhere n before [] f i h = refl
nowhere n before (m ∷ p) f i h = let a = f.0.absent i h in let b = nowhere n (before ++ m ∷ []) p f.1 i h in omega arith

how_many_at : (n p : ℕ) (bs : List ℕ) → length (monomials_at n p bs) ≡ n
how_many_at zero p bs = refl
how_many_at (suc n) p bs = let h = how_many_at n (p + 7) bs in omega arith

some_monomial : (bs : List ℕ) → 7 ≤ length bs → 1 ≤ length (polynomial_from bs)
unfolding polynomial_from
some_monomial bs h = omega (arith, how_many_at (length bs / 7) 0 bs, div-add-mod (length bs) 7, mod-lt (length bs) {m = 7} (omega arith))

-- the field that decides for a code
record Found (sig : Arities) (full : List Located) (c : ℕ) (monomials : List ℕ) : Type 0 where
  before : List Located
  field : Located
  rest : List Located
  fields_are : full ≡ before ++ field ∷ rest
  is : monomials ≡ monomials_in field.field
  for_it : code field.field ≡ c
  asked : AllYes (polynomial_questions sig before field)

found : (sig : Arities) (c : ℕ) (before ls full : List Located) → full ≡ before ++ ls → AllPass polynomial_questions sig before ls → HasField c ls → Found sig full c (monomials_by ls c)
found sig c before [] full e a h = absurd h
found sig c before (l ∷ ls) full e a h = by (cases_Bool (eqb (code l.field) c)) h (found sig c (before ++ l ∷ []) ls full (e ∙ sym (append_assoc before (l ∷ []) ls)) a.1)
  where
    by : (eqb (code l.field) c ≡ true) ⊎ (eqb (code l.field) c ≡ false) → HasField c (l ∷ ls) → (HasField c ls → Found sig full c (monomials_by ls c)) → Found sig full c (monomials_by (l ∷ ls) c)
    by (inl d) h later = record {
      before = before;
      field = l;
      rest = ls;
      fields_are = e;
      is = ap (λ b. cond b (monomials_in l.field) (monomials_by ls c)) d;
      for_it = eqb-true (code l.field) c d;
      asked = a.0;
    }
    by (inr d) (inl s) later = let z = sym d ∙ eq-eqb (code l.field) c s in let q : ◌≡◌ {A = ℕ} 0 1 = cc in absurd (omega arith)
    by (inr d) (inr s) later = subst (Found sig full c) (sym (ap (λ b. cond b (monomials_in l.field) (monomials_by ls c)) d)) (later s)

declared_field : (at : ℕ) (fs : List BookField) (c n : ℕ) → signature fs c ≡ Some n → HasField c (with_tag 1 (located at fs))
declared_field at [] c n e = cc
declared_field at (f ∷ fs) c n e = by (eqb f.tag 1) (eqb (code f) c) refl e (declared_field (at + length (field_bytes f)) fs c n)
  where
    rest : List Located
    rest = with_tag 1 (located (at + length (field_bytes f)) fs)

    by : (b d : Bool) → eqb (code f) c ≡ d → cond (b && d) (Some (arity f)) (signature fs c) ≡ Some n → (signature fs c ≡ Some n → HasField c (with_tag 1 (located (at + length (field_bytes f)) fs)))
        → HasField c (cond b (record { offset = at; field = f } ∷ with_tag 1 (located (at + length (field_bytes f)) fs)) (with_tag 1 (located (at + length (field_bytes f)) fs)))
    by true true s q later = inl (eqb-true (code f) c s)
    by true false s q later = inr (later q)
    by false d s q later = later q

have_of : (fields ls : List Located) (c : ℕ) → AllHave fields ls → HasField c ls → HasField c fields
have_of fields [] c a h = absurd h
have_of fields (l ∷ ls) c a (inl e) = subst (λ c. HasField c fields) e a.0
have_of fields (l ∷ ls) c a (inr h) = have_of fields ls c a.1 h

pub proper_interpretation : (bs : List ℕ) → AllThere bs (fields_of bs 3) → Answered polynomial_questions bs 3 → Proper (signature_of bs) (interpretation_of bs)
proper_interpretation bs there figured c n e =
    let has = have_of (fields_of bs 3) (fields_of bs 1) c figured.all_have (declared_field 0 (fields bs) c n e) in
    let f = found (signature_of bs) c [] (fields_of bs 3) (fields_of bs 3) refl figured.all_pass has in
    let m : unwrap_or (signature_of bs (code f.field.field)) 0 ≡ n = ap (λ c. unwrap_or (signature_of bs c) 0) f.for_it ∙ ap (λ o. unwrap_or o 0) e in
    let p = polynomial_from (monomials_in f.field.field) in
    let fits = subst (λ n. MonomialsFit n [] p) m f.asked.1.0 in
    let least = ((there f.before f.rest f.field f.fields_are).fits _ refl).0 in
    let long = length-drop 1 f.field.field.value in
    subst (λ w. ProperFor n (polynomial_from w)) (sym f.is)
    (record {
      not_empty = some_monomial (drop 1 f.field.field.value) (omega (arith, least, long));
      factors = positive n [] p fits;
      present = subst (λ n. HasArguments n p) m f.asked.1.1.0;
      absent = nowhere n [] p fits;
    })

-- ── the empty book ──

pub record Nothing (bs : List ℕ) (places : Places) : Type 0 where
  pub placed : FigurePlaces places (fields_of bs 3)
  pub there : AllThere bs (fields_of bs 3)
  pub figured : Answered polynomial_questions bs 3

pub nothing : (bs : List ℕ) (places : Places) → bs ≡ [] → ((c : ℕ) → place_of places c ≡ None) → Nothing bs places
nothing bs places e none = subst (λ bs. Nothing bs places) (sym e) (record {
  placed = none;
  there = λ before rest l d. absurd (omega (arith, ap length d, length-append before (l ∷ rest)));
  figured = record { all_pass = tt; all_have = tt };
})
