-- What the tables of a read book answer is what its bytes mean.
use Rattle.std.proofs.Common.{◌≡◌, ℕ, zero, suc, ◌+◌, ◌<◌, ◌≤◌, Bool, true, false, cond, eqb, List, [], ◌∷◌, ◌++◌, length, get_or, sym, refl, ap, ◌∙◌, subst, append_assoc, append-nil, arith, length-append}
use mathlib.Core.Logic.{∥∥₁_elim}
use native.Mathlib.Bridge.{le_prop}
use native.Mathlib.Nat.{ℕ_set}
use Rattle.std.proofs.lemmas.List.{length-map}
use Rattle.std.proofs.lemmas.Bool.{eqb-true}
use Rattle.terms.proofs.Sorts.{option_set, bytes_set}
use Rattle.book.specs.Format.{BookField, field_bytes, book_bytes, fields}
use Rattle.book.specs.Meaning.{rule_of, Located, located, with_tag, signature_of, fields_of, rules_of}
use Rattle.book.specs.Questions.{Good, rules_in}
use Rattle.book.specs.declared.tables.Tables.{Tables}
use Rattle.book.specs.Tables.{kept_signature, Laid, Holds}
use Rattle.book.proofs.Entering.{arity_is, rules_push_same, rules_push_other}

module _ (t : Tables) where
  abbrev bs : List ℕ
  bs = t.bytes.now

  held_laid : Holds t → Laid bs (fields bs)
  held_laid h = record { short = h.short; rest = []; form = append-nil (book_bytes (fields bs)) ∙ h.row; good = h.good }

  pub held_arity : ∥ Holds t ∥₁ → (c : ℕ) → kept_signature t c ≡ signature_of bs c
  held_arity held c = ∥∥₁_elim held (option_set (kept_signature t c) (signature_of bs c)) (λ h. arity_is t (fields bs) (held_laid h) h.tabled c)

  pub held_symbols : ∥ Holds t ∥₁ → t.symbols ≡ length (fields_of bs 1)
  held_symbols held = ∥∥₁_elim held (ℕ_set t.symbols (length (fields_of bs 1))) (λ h. h.tabled.symbols_are)

  pub held_count : ∥ Holds t ∥₁ → t.rules.count ≡ length (rules_of bs)
  held_count held =
      ∥∥₁_elim held (ℕ_set t.rules.count (length (rules_of bs))) (λ h. h.tabled.count_is ∙ sym (length-map (fields_of bs 2) (λ l. rule_of (signature_of bs) l.field)))

  pub held_row : ∥ Holds t ∥₁ → book_bytes (fields bs) ≡ bs
  held_row held = ∥∥₁_elim held (bytes_set (book_bytes (fields bs)) bs) (λ h. h.row)

-- ── at most 32 rules ──

many_good : (before fs : List BookField) → Good before fs → rules_in before ≤ 32 → rules_in (before ++ fs) ≤ 32
many_good before [] g h = subst (λ w. rules_in w ≤ 32) (sym (append-nil before)) h
many_good before (f ∷ fs) g h =
    subst (λ w. rules_in w ≤ 32) (append_assoc before (f ∷ []) fs)
    (many_good (before ++ f ∷ []) fs g.1 (one_more (eqb f.tag 2) refl))
  where
    one_more : (b : Bool) → eqb f.tag 2 ≡ b → rules_in (before ++ f ∷ []) ≤ 32
    one_more true e =
        let room = g.0.1.1.1.1.0 (eqb-true f.tag 2 e) in
        omega (arith, ap length (rules_push_same before f e), length-append (with_tag 2 (located 0 before)) (record { offset = length (book_bytes before); field = f } ∷ []))
    one_more false e = omega (arith, ap length (rules_push_other before f e))

pub few_rules : (fs : List BookField) → Good [] fs → rules_in fs ≤ 32
few_rules fs g = many_good [] fs g (omega arith)

-- ── the i-th field of a tag ──

pub record Nth (tag at : ℕ) (fs : List BookField) (i : ℕ) (d : Located) : Type 0 where
  pub pre : List BookField
  pub field : BookField
  pub post : List BookField
  pub splits : fs ≡ pre ++ field ∷ post
  pub tag_is : field.tag ≡ tag
  pub is : get_or (with_tag tag (located at fs)) i d ≡ record { offset = at + length (book_bytes pre); field = field }

pub nth : (tag at : ℕ) (fs : List BookField) (i : ℕ) (d : Located) → i < length (with_tag tag (located at fs)) → Nth tag at fs i d
nth tag at [] i d h = absurd (omega arith)
nth tag at (f ∷ fs) i d h = by (eqb f.tag tag) refl i h (λ j k. nth tag (at + length (field_bytes f)) fs j d k)
  where
    step : (j k : ℕ) → Nth tag (at + length (field_bytes f)) fs j d → get_or (with_tag tag (located at (f ∷ fs))) k d ≡ get_or (with_tag tag (located (at + length (field_bytes f)) fs)) j d → Nth tag at (f ∷ fs) k d
    step j k r e =
        let o : at + length (field_bytes f) + length (book_bytes r.pre) ≡ at + length (book_bytes (f ∷ r.pre)) = omega (arith, length-append (field_bytes f) (book_bytes r.pre)) in
        record {
          pre = f ∷ r.pre;
          field = r.field;
          post = r.post;
          splits = ap (λ gs. f ∷ gs) r.splits;
          tag_is = r.tag_is;
          is = e ∙ r.is ∙ ap (λ n. record { offset = n; field = r.field }) o;
        }

    by : (b : Bool) → eqb f.tag tag ≡ b → (k : ℕ) → k < length (with_tag tag (located at (f ∷ fs))) → ((j : ℕ) → j < length (with_tag tag (located (at + length (field_bytes f)) fs)) → Nth tag (at + length (field_bytes f)) fs j d) → Nth tag at (f ∷ fs) k d
    by true e zero l rest =
        let o : at ≡ at + 0 = omega arith in
        record {
          pre = [];
          field = f;
          post = fs;
          splits = refl;
          tag_is = eqb-true f.tag tag e;
          is = ap (λ b. get_or (cond b (record { offset = at; field = f } ∷ with_tag tag (located (at + length (field_bytes f)) fs)) (with_tag tag (located (at + length (field_bytes f)) fs))) 0 d) e ∙ ap (λ n. record { offset = n; field = f }) o;
        }
    by true e (suc k) l rest =
        let here = ap (λ b. cond b (record { offset = at; field = f } ∷ with_tag tag (located (at + length (field_bytes f)) fs)) (with_tag tag (located (at + length (field_bytes f)) fs))) e in
        step k (suc k) (rest k (omega (arith, ap length here))) (ap (λ ls. get_or ls (suc k) d) here)
    by false e k l rest =
        let here = ap (λ b. cond b (record { offset = at; field = f } ∷ with_tag tag (located (at + length (field_bytes f)) fs)) (with_tag tag (located (at + length (field_bytes f)) fs))) e in
        step k k (rest k (omega (arith, ap length here))) (ap (λ ls. get_or ls k d) here)

pub held_few : (t : Tables) → ∥ Holds t ∥₁ → t.rules.count ≤ 32
held_few t held = ∥∥₁_elim held le_prop (λ h. omega (arith, h.tabled.count_is, few_rules (fields t.bytes.now) h.good))
