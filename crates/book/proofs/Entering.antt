-- One field more: what it changes in the tables, and in the questions that were answered.
use Rattle.std.proofs.Common.{◌≡◌, ℕ, ◌+◌, ◌<◌, ◌≤◌, Bool, true, false, cond, ◌&&◌, eqb, List, [], ◌∷◌, ◌++◌, map, length, get_or, take, is_some, Some, None, Option, sym, refl, ap, ◌∙◌, subst, ap₂, append_assoc, append-nil, arith, length-append, MatchOption}
use mathlib.Core.Path.{fun_ext}
use Rattle.std.proofs.lemmas.List.{get_or-append-add, map-append}
use Rattle.std.proofs.lemmas.Option.{none-some}
use Rattle.std.proofs.lemmas.Bool.{true≢false, eqb-true, eqb-false, ne_eqb, eq-eqb, lt-ltb}
use Rattle.std.specs.Option.{option_and_then}
use Rattle.terms.specs.Question.{AllYes}
use Rattle.book.specs.Format.{BookField, field_bytes, book_bytes, shape_of, FitsShape}
use Rattle.book.specs.Meaning.{code, arity, declares, signature, Located, located, with_tag}
use Rattle.book.specs.Questions.{Good, field_questions, SymbolFits, SidesFit, LengthFits}
use Rattle.book.specs.declared.tables.Tables.{Tables}
use Rattle.book.specs.Places.{place_of, Entered}
use Rattle.book.specs.Tables.{arity_place, byte_at, kept_signature, TablesOf, Laid}

abbrev at_place : ℕ → BookField → Located
at_place o f = record { offset = o; field = f }

located_push : (at : ℕ) (fs : List BookField) (f : BookField) → located at (fs ++ f ∷ []) ≡ located at fs ++ at_place (at + length (book_bytes fs)) f ∷ []
located_push at [] f = let e : at ≡ at + 0 = omega arith in ap (λ o. at_place o f ∷ []) e
located_push at (g ∷ fs) f =
    let e : at + length (field_bytes g) + length (book_bytes fs) ≡ at + length (book_bytes (g ∷ fs)) = omega (arith, length-append (field_bytes g) (book_bytes fs)) in
    ap (λ ls. at_place at g ∷ ls) (located_push (at + length (field_bytes g)) fs f ∙ ap (λ o. located (at + length (field_bytes g)) fs ++ at_place o f ∷ []) e)

pub located_push_0 : (fs : List BookField) (f : BookField) → located 0 (fs ++ f ∷ []) ≡ located 0 fs ++ at_place (length (book_bytes fs)) f ∷ []
located_push_0 fs f = let e : 0 + length (book_bytes fs) ≡ length (book_bytes fs) = omega arith in located_push 0 fs f ∙ ap (λ o. located 0 fs ++ at_place o f ∷ []) e

-- ── the fields of a tag ──

module _ (t : ℕ) (l : Located) where
  tag_same : (ls : List Located) → eqb l.field.tag t ≡ true → with_tag t (ls ++ l ∷ []) ≡ with_tag t ls ++ l ∷ []
  tag_same [] e = ap (λ b. cond b (l ∷ []) []) e
  tag_same (m ∷ ls) e = by (eqb m.field.tag t) (tag_same ls e)
    where
      by : (b : Bool) → with_tag t (ls ++ l ∷ []) ≡ with_tag t ls ++ l ∷ [] → cond b (m ∷ with_tag t (ls ++ l ∷ [])) (with_tag t (ls ++ l ∷ [])) ≡ cond b (m ∷ with_tag t ls) (with_tag t ls) ++ l ∷ []
      by true h = ap (λ ms. m ∷ ms) h
      by false h = h

  tag_other : (ls : List Located) → eqb l.field.tag t ≡ false → with_tag t (ls ++ l ∷ []) ≡ with_tag t ls
  tag_other [] e = ap (λ b. cond b (l ∷ []) []) e
  tag_other (m ∷ ls) e = ap (λ ms. cond (eqb m.field.tag t) (m ∷ ms) ms) (tag_other ls e)

pub rules_push_same : (fs : List BookField) (f : BookField) → eqb f.tag 2 ≡ true → with_tag 2 (located 0 (fs ++ f ∷ [])) ≡ with_tag 2 (located 0 fs) ++ record { offset = length (book_bytes fs); field = f } ∷ []
rules_push_same fs f e = ap (with_tag 2) (located_push_0 fs f) ∙ tag_same 2 (at_place (length (book_bytes fs)) f) (located 0 fs) e

pub rules_push_other : (fs : List BookField) (f : BookField) → eqb f.tag 2 ≡ false → with_tag 2 (located 0 (fs ++ f ∷ [])) ≡ with_tag 2 (located 0 fs)
rules_push_other fs f e = ap (with_tag 2) (located_push_0 fs f) ∙ tag_other 2 (at_place (length (book_bytes fs)) f) (located 0 fs) e

-- ── where a symbol's arity stands ──

module _ (c : ℕ) (l : Located) where
  arity_other : (ls : List Located) → declares c l.field ≡ false → arity_place (ls ++ l ∷ []) c ≡ arity_place ls c
  arity_other [] e = ap (λ b. cond b (Some (l.offset + 4)) None) e
  arity_other (m ∷ ls) e = ap (cond (declares c m.field) (Some (m.offset + 4))) (arity_other ls e)

  arity_new : (ls : List Located) → arity_place ls c ≡ None → declares c l.field ≡ true → arity_place (ls ++ l ∷ []) c ≡ Some (l.offset + 4)
  arity_new [] n e = ap (λ b. cond b (Some (l.offset + 4)) None) e
  arity_new (m ∷ ls) n e = by (declares c m.field) _ n (λ h. arity_new ls h e)
    where
      by : (b : Bool) (next : Option ℕ) → cond b (Some (m.offset + 4)) (arity_place ls c) ≡ None → (arity_place ls c ≡ None → next ≡ Some (l.offset + 4)) → cond b (Some (m.offset + 4)) next ≡ Some (l.offset + 4)
      by true next h later = absurd (none-some _ (sym h))
      by false next h later = later h

-- a code is declared where its arity has a place
declared_where : (c at : ℕ) (fs : List BookField) → is_some (arity_place (located at fs) c) ≡ is_some (signature fs c)
declared_where c at [] = refl
declared_where c at (f ∷ fs) = by (declares c f) (at + 4) (arity f) _ _ (declared_where c (at + length (field_bytes f)) fs)
  where
    by : (b : Bool) (p a : ℕ) (o q : Option ℕ) → is_some o ≡ is_some q → is_some (cond b (Some p) o) ≡ is_some (cond b (Some a) q)
    by true p a o q h = refl
    by false p a o q h = h

is_none_of : (o : Option ℕ) → is_some o ≡ false → o ≡ None
is_none_of (Some a) x = absurd (true≢false x)
is_none_of None x = refl

no_place : (fs : List BookField) (c : ℕ) → signature fs c ≡ None → arity_place (located 0 fs) c ≡ None
no_place fs c n = is_none_of _ (declared_where c 0 fs ∙ ap is_some n)

-- a symbol's field has a code and an arity
abbrev pub Shaped : BookField → Type 0
Shaped f = f.tag ≡ 1 → (code f < 128) × (length f.value ≡ 2)

abbrev pub AllShaped : List BookField → Type 0
AllShaped [] = Unit {0}
AllShaped (f ∷ fs) = Shaped f × AllShaped fs

-- the length that a symbol's field must have
pub two_bytes : (f : BookField) → LengthFits f → f.tag ≡ 1 → length f.value ≡ 2
two_bytes f h e = let k = subst (λ t. MatchOption (shape_of t) ⊥ (λ s. FitsShape s (length f.value))) e h in omega arith

pub good_shaped : (before fs : List BookField) → Good before fs → AllShaped fs
good_shaped before [] g = tt
good_shaped before (f ∷ fs) g = ((λ e. ((g.0.1.1.0 e).most, two_bytes f g.0.1.0 e)), good_shaped (before ++ f ∷ []) fs g.1)

-- of each code from 128 on nothing is declared
pub high_none : (c : ℕ) (fs : List BookField) → AllShaped fs → 128 ≤ c → signature fs c ≡ None
high_none c [] s h = refl
high_none c (f ∷ fs) s h = by (eqb f.tag 1) (eqb (code f) c) refl refl (high_none c fs s.1 h)
  where
    by : (a b : Bool) → eqb f.tag 1 ≡ a → eqb (code f) c ≡ b → signature fs c ≡ None → cond (a && b) (Some (arity f)) (signature fs c) ≡ None
    by true true x y later = absurd (omega (arith, (s.0 (eqb-true f.tag 1 x)).0, eqb-true (code f) c y))
    by true false x y later = later
    by false b x y later = later

module _ (bs : List ℕ) (c : ℕ) where
  -- the arity of a symbol is the fifth byte of its field
  pub arity_byte : (front : List ℕ) (at : ℕ) (f : BookField) (more : List ℕ) → length front ≡ at → front ++ (field_bytes f ++ more) ≡ bs → length f.value ≡ 2 → byte_at bs (at + 4) ≡ Some (arity f)
  arity_byte front at f more l e two =
      let inside : at + 4 < length bs = omega (arith, length-append front (field_bytes f ++ more), length-append (field_bytes f) more, ap length e) in
      let there : get_or bs (at + 4) 0 ≡ arity f =
      ap (λ w. get_or w (at + 4) 0) (sym e)
      ∙ ap (λ n. get_or (front ++ (field_bytes f ++ more)) (n + 4) 0) (sym l)
      ∙ get_or-append-add front (field_bytes f ++ more) 4 0
      ∙ second f.value two in
      ap₂ (λ b v. cond b (Some v) None) (lt-ltb (at + 4) (length bs) inside) there
    where
      second : (v : List ℕ) → length v ≡ 2 → get_or (v ++ more) 1 0 ≡ get_or v 1 0
      second [] h = absurd (omega arith)
      second (x ∷ []) h = absurd (omega arith)
      second (x ∷ (y ∷ ys)) h = refl

  arity_found : (front : List ℕ) (at : ℕ) (fs : List BookField) (rest : List ℕ) → length front ≡ at → front ++ (book_bytes fs ++ rest) ≡ bs → AllShaped fs → option_and_then (byte_at bs) (arity_place (located at fs) c) ≡ signature fs c
  arity_found front at [] rest l e s = refl
  arity_found front at (f ∷ fs) rest l e s =
      by (eqb f.tag 1) (eqb (code f) c) refl (arity_place (located (at + length (field_bytes f)) fs) c)
      (arity_found (front ++ field_bytes f) (at + length (field_bytes f)) fs rest
      (omega (arith, length-append front (field_bytes f)))
      (append_assoc front (field_bytes f) (book_bytes fs ++ rest) ∙ form)
      s.1)
    where
      form : front ++ (field_bytes f ++ (book_bytes fs ++ rest)) ≡ bs
      form = ap (λ w. front ++ w) (sym (append_assoc (field_bytes f) (book_bytes fs) rest)) ∙ e

      by : (a b : Bool) → eqb f.tag 1 ≡ a → (next : Option ℕ) → option_and_then (byte_at bs) next ≡ signature fs c → option_and_then (byte_at bs) (cond (a && b) (Some (at + 4)) next) ≡ cond (a && b) (Some (arity f)) (signature fs c)
      by true true x next later = arity_byte front at f (book_bytes fs ++ rest) l form (s.0 (eqb-true f.tag 1 x)).1
      by true false x next later = later
      by false b x next later = later

-- the tables answer the signature of the fields
pub arity_is : (t : Tables) (before : List BookField) → Laid t.bytes.now before → TablesOf t before → (c : ℕ) → kept_signature t c ≡ signature before c
arity_is t before laid tabled c =
    ap (option_and_then (byte_at t.bytes.now)) (tabled.arities_are c)
    ∙ arity_found t.bytes.now c [] 0 before laid.rest refl laid.form (good_shaped [] before laid.good)

-- ── one field more ──

pub good_push : (before fs : List BookField) (f : BookField) → Good before fs → AllYes (field_questions (before ++ fs) f) → Good before (fs ++ f ∷ [])
good_push before [] f g y = (subst (λ w. AllYes (field_questions w f)) (append-nil before) y, tt)
good_push before (h ∷ fs) f g y =
    (g.0, good_push (before ++ h ∷ []) fs f g.1 (subst (λ w. AllYes (field_questions w f)) (sym (append_assoc before (h ∷ []) fs)) y))

module _ (t : Tables) (before : List BookField) (told : TablesOf t before) (f : BookField) where
  abbrev last : Located
  last = at_place (length (book_bytes before)) f

  declares_not : (c : ℕ) → (f.tag ≡ 1 → ⊥) → declares c f ≡ false
  declares_not c n = by (eqb f.tag 1) (eqb (code f) c) refl
    where
      by : (a b : Bool) → eqb f.tag 1 ≡ a → a && b ≡ false
      by true b x = absurd (n (eqb-true f.tag 1 x))
      by false b x = refl

  not_eqb : (n : ℕ) → (f.tag ≡ n → ⊥) → eqb f.tag n ≡ false
  not_eqb n h = by (eqb f.tag n) refl
    where
      by : (b : Bool) → eqb f.tag n ≡ b → b ≡ false
      by true x = absurd (h (eqb-true f.tag n x))
      by false x = refl

  -- neither a symbol nor a rule changes nothing
  pub other_push : (f.tag ≡ 1 → ⊥) → (f.tag ≡ 2 → ⊥) → TablesOf t (before ++ f ∷ [])
  other_push n m =
      let pushed = located_push_0 before f in
      let none : (tag : ℕ) → eqb f.tag tag ≡ false → with_tag tag (located 0 (before ++ f ∷ [])) ≡ with_tag tag (located 0 before) = λ tag e. ap (with_tag tag) pushed ∙ tag_other tag last (located 0 before) e in
      record {
        arities_are = λ c. told.arities_are c ∙ sym (ap (λ ls. arity_place ls c) pushed ∙ arity_other c last (located 0 before) (declares_not c n));
        symbols_are = told.symbols_are ∙ ap length (sym (none 1 (not_eqb 1 n)));
        rules_are = told.rules_are ∙ ap (map (λ l. l.offset)) (sym (none 2 (not_eqb 2 m)));
        count_is = told.count_is ∙ ap length (sym (none 2 (not_eqb 2 m)));
      }

  -- a new symbol
  pub symbol_push : (new : Tables) → f.tag ≡ 1 → SymbolFits before f → Entered t.arities (code f) (length (book_bytes before) + 4) new.arities → new.symbols ≡ t.symbols + 1 → new.rules ≡ t.rules → TablesOf new (before ++ f ∷ [])
  symbol_push new e fits entered more same =
      let pushed = located_push_0 before f in
      let is : eqb f.tag 1 ≡ true = eq-eqb f.tag 1 e in
      let no_rule = not_eqb 2 (λ two. omega arith) in
      record {
        arities_are = places;
        symbols_are = omega (arith, more, told.symbols_are, ap length (ap (with_tag 1) pushed ∙ tag_same 1 last (located 0 before) is), length-append (with_tag 1 (located 0 before)) (last ∷ []));
        rules_are = ap (λ r. take r.count r.entries) same ∙ told.rules_are ∙ ap (map (λ l. l.offset)) (sym (ap (with_tag 2) pushed ∙ tag_other 2 last (located 0 before) no_rule));
        count_is = ap (λ r. r.count) same ∙ told.count_is ∙ ap length (sym (ap (with_tag 2) pushed ∙ tag_other 2 last (located 0 before) no_rule));
      }
    where
      places : (c : ℕ) → place_of new.arities c ≡ arity_place (located 0 (before ++ f ∷ [])) c
      places c = entered c ∙ by (eqb c (code f)) refl
        where
          by : (b : Bool) → eqb c (code f) ≡ b → cond b (Some (length (book_bytes before) + 4)) (place_of t.arities c) ≡ arity_place (located 0 (before ++ f ∷ [])) c
          by true x =
              let same : c ≡ code f = eqb-true c (code f) x in
              let none = no_place before c (ap (signature before) same ∙ fits.new) in
              sym (ap (λ ls. arity_place ls c) (located_push_0 before f) ∙ arity_new c last (located 0 before) none (ap₂ ◌&&◌ (eq-eqb f.tag 1 e) (eq-eqb (code f) c (sym same))))
          by false x =
              told.arities_are c
              ∙ sym (ap (λ ls. arity_place ls c) (located_push_0 before f) ∙ arity_other c last (located 0 before) (ap₂ ◌&&◌ (eq-eqb f.tag 1 e) (ne_eqb (code f) c (λ q. eqb-false c (code f) x (sym q)))))

  -- a new rule
  pub rule_push : (new : Tables) → f.tag ≡ 2 → new.arities ≡ t.arities → new.symbols ≡ t.symbols → new.rules.count ≡ t.rules.count + 1 → take new.rules.count new.rules.entries ≡ take t.rules.count t.rules.entries ++ length (book_bytes before) ∷ [] → TablesOf new (before ++ f ∷ [])
  rule_push new e same still counted longer =
      let pushed = located_push_0 before f in
      let is : eqb f.tag 2 ≡ true = eq-eqb f.tag 2 e in
      let no_symbol : f.tag ≡ 1 → ⊥ = λ one. omega arith in
      let more : with_tag 2 (located 0 (before ++ f ∷ [])) ≡ with_tag 2 (located 0 before) ++ last ∷ [] = ap (with_tag 2) pushed ∙ tag_same 2 last (located 0 before) is in
      record {
        arities_are = λ c. ap (λ p. place_of p c) same ∙ told.arities_are c ∙ sym (ap (λ ls. arity_place ls c) pushed ∙ arity_other c last (located 0 before) (declares_not c no_symbol));
        symbols_are = still ∙ told.symbols_are ∙ ap length (sym (ap (with_tag 1) pushed ∙ tag_other 1 last (located 0 before) (not_eqb 1 no_symbol)));
        rules_are =
            longer
            ∙ ap (λ w. w ++ length (book_bytes before) ∷ []) told.rules_are
            ∙ sym (ap (map (λ l. l.offset)) more ∙ map-append (λ l. l.offset) (with_tag 2 (located 0 before)) (last ∷ []));
        count_is = omega (arith, counted, told.count_is, ap length more, length-append (with_tag 2 (located 0 before)) (last ∷ []));
      }

-- ── what the tables say of the questions ──

module _ (t : Tables) (before : List BookField) (laid : Laid t.bytes.now before) (told : TablesOf t before) (f : BookField) where
  pub signature_same : kept_signature t ≡ signature before
  signature_same = fun_ext (arity_is t before laid told)

  -- a symbol that fits has no place yet, and a code without a place is new
  pub place_free : SymbolFits before f → place_of t.arities (code f) ≡ None
  place_free fits = told.arities_are (code f) ∙ no_place before (code f) fits.new

  pub symbol_new : place_of t.arities (code f) ≡ None → signature before (code f) ≡ None
  symbol_new e = is_none_of _ (sym (declared_where (code f) 0 before) ∙ ap is_some (sym (told.arities_are (code f)) ∙ e))

  pub sides_before : SidesFit (kept_signature t) f → SidesFit (signature before) f
  sides_before s = subst (λ sig. SidesFit sig f) signature_same s

  pub sides_after : SidesFit (signature before) f → SidesFit (kept_signature t) f
  sides_after s = subst (λ sig. SidesFit sig f) (sym signature_same) s
