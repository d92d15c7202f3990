-- The sides of a rule stand in the bytes where the tables say, and read as the rule's terms.
use Rattle.std.proofs.Common.{◌≡◌, ℕ, ◌+◌, ◌<◌, ◌≤◌, Bool, true, false, cond, List, [], ◌∷◌, ◌++◌, length, get_or, drop, Some, None, Option, sym, refl, ap, ◌∙◌, subst, ap₂, append_assoc, append-nil, arith, length-append, MatchOption}
use mathlib.Core.HLevel.{⊥_prop}
use mathlib.Core.Logic.{∥∥₁_elim}
use native.Mathlib.Bridge.{le_prop}
use Rattle.std.proofs.lemmas.List.{drop_at, drop_all, get_or-map, get_or-take, length-map}
use Rattle.terms.specs.Term.{rule_at, var, size}
use Rattle.terms.specs.Prefix.{Arities, WellSorted, Reads, term_of}
use Rattle.terms.specs.Question.{AllYes}
use Rattle.terms.proofs.Reading.{prefix_length, bytes_read_as_their_term}
use Rattle.terms.proofs.Sorts.{well_sorted_prop, reads_prop, sorted_more}
use Rattle.book.specs.declared.fault.Fault.{Fault}
use Rattle.terms.specs.declared.side.Sides.{Sides}
use Rattle.book.specs.Format.{BookField, field_bytes, book_bytes, field_at, fields}
use Rattle.book.specs.Meaning.{arity, declares, signature, left_side, right_side, rule_of, Located, located, with_tag, signature_of, rules_of}
use Rattle.book.specs.Questions.{Whole, FieldRead, AtEnd, NotRead, Good, field_questions, IsSide}
use Rattle.book.specs.Queries.{SidesOf}
use Rattle.book.specs.declared.tables.Tables.{Tables}
use Rattle.book.specs.Tables.{Holds}
use Rattle.book.proofs.FieldBytes.{length_back, field_back}
use Rattle.book.proofs.Held.{nth, held_count}

pub book_bytes_append : (fs gs : List BookField) → book_bytes (fs ++ gs) ≡ book_bytes fs ++ book_bytes gs
book_bytes_append [] gs = refl
book_bytes_append (f ∷ fs) gs = ap (λ w. field_bytes f ++ w) (book_bytes_append fs gs) ∙ sym (append_assoc (field_bytes f) (book_bytes fs) (book_bytes gs))

-- a field in the middle has passed its questions
pub good_at : (before pre post : List BookField) (f : BookField) → Good before (pre ++ f ∷ post) → AllYes (field_questions (before ++ pre) f)
good_at before [] post f g = subst (λ w. AllYes (field_questions w f)) (sym (append-nil before)) g.0
good_at before (h ∷ pre) post f g = subst (λ w. AllYes (field_questions w f)) (append_assoc before (h ∷ []) pre) (good_at (before ++ h ∷ []) pre post f g.1)

-- what is declared stays declared
declared_stays : (fs gs : List BookField) (c a : ℕ) → signature fs c ≡ Some a → signature (fs ++ gs) c ≡ Some a
declared_stays [] gs c a e = let z : ◌≡◌ {A = ℕ} 0 1 = cc in absurd (omega arith)
declared_stays (f ∷ fs) gs c a e = by (declares c f) e (declared_stays fs gs c a)
  where
    by : (b : Bool) → cond b (Some (arity f)) (signature fs c) ≡ Some a → (signature fs c ≡ Some a → signature (fs ++ gs) c ≡ Some a) → cond b (Some (arity f)) (signature (fs ++ gs) c) ≡ Some a
    by true h later = h
    by false h later = later h

-- where the rule i stands
pub record Stands (t : Tables) (i : ℕ) : Type 0 where
  pub field : BookField
  pub more : List ℕ
  pub there : drop (get_or t.rules.entries i 0) t.bytes.now ≡ field_bytes field ++ more
  pub inside : get_or t.rules.entries i 0 ≤ length t.bytes.now
  pub listed : i < length (rules_of t.bytes.now)
  pub rule_is : rule_at (rules_of t.bytes.now) i ≡ rule_of (signature_of t.bytes.now) field
  pub left_fits : IsSide (signature_of t.bytes.now) (left_side field)
  pub right_fits : IsSide (signature_of t.bytes.now) (right_side field)

side_more : (sig more : Arities) → ((c a : ℕ) → sig c ≡ Some a → more c ≡ Some a) → (bs : List ℕ) → IsSide sig bs → IsSide more bs
side_more sig more h bs s =
    let t = s.term in
    record { some = s.some; most = s.most; term = (t.0, record { sorted = sorted_more sig more 4 h t.0 t.1.sorted; form = t.1.form }) }

nothing_located : Located
nothing_located = record { offset = 0; field = record { tag = 0; value = [] } }

module _ (t : Tables) (i : ℕ) (below : i < t.rules.count) where
  abbrev bs : List ℕ
  bs = t.bytes.now

  abbrev rules : List ℕ
  rules = t.rules.entries

  stands : Holds t → Stands t i
  stands h =
      let fs = fields bs in
      let counted : i < length (with_tag 2 (located 0 fs)) = omega (arith, h.tabled.count_is) in
      let n = nth 2 0 fs i nothing_located counted in
      let f = n.field in
      let place : get_or rules i 0 ≡ length (book_bytes n.pre) =
      sym (get_or-take t.rules.count rules i 0 below)
      ∙ ap (λ w. get_or w i 0) h.tabled.rules_are
      ∙ get_or-map (λ l. l.offset) (with_tag 2 (located 0 fs)) i nothing_located 0 counted
      ∙ ap (λ l. l.offset) n.is
      ∙ omega arith in
      let form : book_bytes n.pre ++ (field_bytes f ++ book_bytes n.post) ≡ bs = sym (book_bytes_append n.pre (f ∷ n.post)) ∙ ap book_bytes (sym n.splits) ∙ h.row in
      let passed = good_at [] n.pre n.post f (subst (Good []) n.splits h.good) in
      let sides = passed.1.1.1.0 n.tag_is in
      let larger : (c a : ℕ) → signature n.pre c ≡ Some a → signature fs c ≡ Some a = λ c a e. ap (λ gs. signature gs c) n.splits ∙ declared_stays n.pre (f ∷ n.post) c a e in
      record {
        field = f;
        more = book_bytes n.post;
        there = ap₂ drop place (sym form) ∙ drop_at (book_bytes n.pre) (field_bytes f ++ book_bytes n.post) (length (book_bytes n.pre)) refl;
        inside = omega (arith, place, ap length form, length-append (book_bytes n.pre) (field_bytes f ++ book_bytes n.post));
        listed = omega (arith, counted, length-map (with_tag 2 (located 0 fs)) (λ l. rule_of (signature fs) l.field));
        rule_is = get_or-map (λ l. rule_of (signature fs) l.field) (with_tag 2 (located 0 fs)) i nothing_located (record { left = var 0; right = var 0 }) counted ∙ ap (λ l. rule_of (signature fs) l.field) n.is;
        left_fits = side_more (signature n.pre) (signature fs) larger (left_side f) sides.0;
        right_fits = side_more (signature n.pre) (signature fs) larger (right_side f) sides.1;
      }

  module _ (held : ∥ Holds t ∥₁) where
    pub rule_inside : get_or rules i 0 ≤ length bs
    rule_inside = ∥∥₁_elim held le_prop (λ h. (stands h).inside)

    pub rule_not_end : (then : ℕ) → AtEnd bs (get_or rules i 0) then → ⊥
    rule_not_end then e = ∥∥₁_elim held ⊥_prop (λ h. let s = stands h in omega (arith, ap length (sym s.there ∙ e.nothing)))

    pub rule_not_cut : (e : Fault) (then : ℕ) → NotRead bs (get_or rules i 0) e then → ⊥
    rule_not_cut e then r =
        ∥∥₁_elim held ⊥_prop (λ h. let s = stands h in r.no_field (subst Whole (sym s.there) (omega (arith, length_back s.field s.more, length-append (field_bytes s.field) s.more))))

-- ── the sides of a field that stands there ──

reads_side : (bs side : List ℕ) → IsSide (signature_of bs) side → Reads (signature_of bs) 4 side (term_of (signature_of bs) side)
reads_side bs side s =
    let t = s.term in
    subst (Reads (signature_of bs) 4 side) (sym (bytes_read_as_their_term (signature_of bs) 4 side t.0 t.1)) t.1

sides_prop : (bs : List ℕ) (i : ℕ) (left right : List ℕ) → IsProp (SidesOf bs i left right)
sides_prop bs i left right a b = λ k. record {
  listed = le_prop a.listed b.listed k;
  left_reads = reads_prop (signature_of bs) 4 left (rule_at (rules_of bs) i).left a.left_reads b.left_reads k;
  right_reads = reads_prop (signature_of bs) 4 right (rule_at (rules_of bs) i).right a.right_reads b.right_reads k;
  left_most = le_prop a.left_most b.left_most k;
  right_most = le_prop a.right_most b.right_most k;
}

sides_from : (t : Tables) (i : ℕ) → Stands t i → (f : BookField) → f ≡ field_at (drop (get_or t.rules.entries i 0) t.bytes.now) → (left right : List ℕ) → left ≡ left_side f → right ≡ right_side f → SidesOf t.bytes.now i left right
sides_from t i s f e left right l r =
    let same : f ≡ s.field = e ∙ ap field_at s.there ∙ field_back s.field s.more in
    let left_is : left ≡ left_side s.field = l ∙ ap left_side same in
    let right_is : right ≡ right_side s.field = r ∙ ap right_side same in
    record {
      listed = s.listed;
      left_reads = subst (λ w. Reads (signature_of t.bytes.now) 4 left w) (ap (λ x. x.left) (sym s.rule_is)) (subst (λ w. Reads (signature_of t.bytes.now) 4 w (term_of (signature_of t.bytes.now) (left_side s.field))) (sym left_is) (reads_side t.bytes.now (left_side s.field) s.left_fits));
      right_reads = subst (λ w. Reads (signature_of t.bytes.now) 4 right w) (ap (λ x. x.right) (sym s.rule_is)) (subst (λ w. Reads (signature_of t.bytes.now) 4 w (term_of (signature_of t.bytes.now) (right_side s.field))) (sym right_is) (reads_side t.bytes.now (right_side s.field) s.right_fits));
      left_most = omega (arith, s.left_fits.most, ap length left_is);
      right_most = omega (arith, s.right_fits.most, ap length right_is);
    }

-- the rule i has sides of the signature, of at most 32 symbols
module _ (t : Tables) (i : ℕ) (listed : i < length (rules_of t.bytes.now)) (held : ∥ Holds t ∥₁) where
  below : i < t.rules.count
  below = omega (arith, listed, held_count t held)

  side_size : (side : List ℕ) → IsSide (signature_of t.bytes.now) side → size (term_of (signature_of t.bytes.now) side) ≤ 32
  side_size side s = omega (arith, s.most, prefix_length (term_of (signature_of t.bytes.now) side), ap length (reads_side t.bytes.now side s).form)

  pub held_left : WellSorted (signature_of t.bytes.now) 4 (rule_at (rules_of t.bytes.now) i).left
  held_left = ∥∥₁_elim held (well_sorted_prop (signature_of t.bytes.now) 4 (rule_at (rules_of t.bytes.now) i).left) (λ h.
      let s = stands t i below h in
      subst (λ r. WellSorted (signature_of t.bytes.now) 4 r.left) (sym s.rule_is) (reads_side t.bytes.now (left_side s.field) s.left_fits).sorted)

  pub held_right : WellSorted (signature_of t.bytes.now) 4 (rule_at (rules_of t.bytes.now) i).right
  held_right = ∥∥₁_elim held (well_sorted_prop (signature_of t.bytes.now) 4 (rule_at (rules_of t.bytes.now) i).right) (λ h.
      let s = stands t i below h in
      subst (λ r. WellSorted (signature_of t.bytes.now) 4 r.right) (sym s.rule_is) (reads_side t.bytes.now (right_side s.field) s.right_fits).sorted)

  pub held_left_size : size (rule_at (rules_of t.bytes.now) i).left ≤ 32
  held_left_size = ∥∥₁_elim held le_prop (λ h.
      let s = stands t i below h in
      subst (λ r. size r.left ≤ 32) (sym s.rule_is) (side_size (left_side s.field) s.left_fits))

no_sides : (t : Tables) (i : ℕ) → Stands t i → (f : BookField) → f ≡ field_at (drop (get_or t.rules.entries i 0) t.bytes.now) → length f.value < 1 + get_or f.value 0 0 → ⊥
no_sides t i s f e short =
    let same : f ≡ s.field = e ∙ ap field_at s.there ∙ field_back s.field s.more in
    let nothing : right_side f ≡ [] = drop_all (1 + get_or f.value 0 0) f.value (omega arith) in
    omega (arith, s.right_fits.some, ap length (ap right_side (sym same) ∙ nothing))

pub sides_held : (t : Tables) (i : ℕ) → i < t.rules.count → ∥ Holds t ∥₁ → (offset : ℕ) (f : BookField) (then : ℕ) → FieldRead t.bytes.now (get_or t.rules.entries i 0) offset f then → (r : Option Sides)
    → MatchOption r (length f.value < 1 + get_or f.value 0 0) (λ s. (1 + get_or f.value 0 0 ≤ length f.value) × (s.left.now ≡ left_side f) × (s.right.now ≡ right_side f))
    → MatchOption r (length (rules_of t.bytes.now) ≤ i) (λ s. SidesOf t.bytes.now i s.left.now s.right.now)
sides_held t i below held offset f then read None short =
    absurd (∥∥₁_elim held ⊥_prop (λ h. no_sides t i (stands t i below h) f read.field_is short))
sides_held t i below held offset f then read (Some s) found =
    ∥∥₁_elim held (sides_prop t.bytes.now i s.left.now s.right.now) (λ h. sides_from t i (stands t i below h) f read.field_is s.left.now s.right.now found.1 found.2)
