-- Variables by first appearance: how many there are, and the number of each.
use Rattle.std.specs.List.{list_any}
use Rattle.std.proofs.Common.{◌≡◌, ◌||◌, ℕ, zero, suc, ◌+◌, ◌-◌, ◌<◌, ◌≤◌, Bool, true, false, cond, eqb, ltb, List, [], ◌∷◌, ◌++◌, length, get_or, take, drop, sym, refl, ap, ◌∙◌, subst, ap₂, append_assoc, append-nil, arith, length-append, le-ltb, lt-ltb, eq-eqb, ne_eqb}
use native.Mathlib.Decide.{ℕ_discrete}
use Rattle.std.proofs.lemmas.List.{drop_all, drop_more, take_more}
use Rattle.terms.specs.Term.{Kind, Tree, var, node, nil, cons}
use Rattle.terms.specs.Prefix.{Arities, WellSorted, prefix, expand}
use Rattle.terms.proofs.Reading.{expand_append}
use Rattle.rewriting.specs.Unify.{is_in, seen, index}
use Rattle.unification.specs.Numbering.{seen_among}
use Rattle.unification.proofs.Counting.{total, total_lt, total_most, at_most_one}

-- ── the place of a variable in a list ──

pub index_is : (x : ℕ) (xs : List ℕ) (r : ℕ) → r ≤ length xs → ((k : ℕ) → k < r → get_or xs k 0 ≡ x → ⊥) → (r < length xs → get_or xs r 0 ≡ x) → r ≡ index x xs
index_is x [] r h before found = omega arith
index_is x (y ∷ ys) zero h before found = sym (ap (λ b. cond b 0 (suc (index x ys))) (eq-eqb x y (sym (found (omega arith)))))
index_is x (y ∷ ys) (suc r) h before found =
    ap suc (index_is x ys r (omega arith) (λ k l. before (suc k) (omega arith)) (λ l. found (omega arith)))
    ∙ sym (ap (λ b. cond b 0 (suc (index x ys))) (ne_eqb x y (λ e. before 0 (omega arith) (sym e))))

pub is_in_yes : (x : ℕ) (xs : List ℕ) (r : ℕ) → r < length xs → get_or xs r 0 ≡ x → is_in x xs ≡ true
is_in_yes x [] r h e = absurd (omega arith)
is_in_yes x (y ∷ ys) zero h e = ap (λ b. cond b true (is_in x ys)) (eq-eqb x y (sym e))
is_in_yes x (y ∷ ys) (suc r) h e = ap (cond (eqb x y) true) (is_in_yes x ys r (omega arith) e) ∙ either (eqb x y)
  where
    either : (b : Bool) → cond b true true ≡ true
    either true = refl
    either false = refl

pub is_in_no : (x : ℕ) (xs : List ℕ) → ((k : ℕ) → k < length xs → get_or xs k 0 ≡ x → ⊥) → is_in x xs ≡ false
is_in_no x [] none = refl
is_in_no x (y ∷ ys) none =
    ap (λ b. cond b true (is_in x ys)) (ne_eqb x y (λ e. none 0 (omega arith) (sym e))) ∙ is_in_no x ys (λ k l. none (suc k) (omega arith))

-- a list has x exactly if the library finds it there
contains_is : (x : ℕ) (xs : List ℕ) → list_any (λ y. eqb y x) xs ≡ is_in x xs
contains_is x [] = refl
contains_is x (y ∷ ys) = go (ℕ_discrete x y) (contains_is x ys)
  where
    go : Dec (x ≡ y) → list_any (λ z. eqb z x) ys ≡ is_in x ys → (eqb y x || list_any (λ z. eqb z x) ys) ≡ cond (eqb x y) true (is_in x ys)
    go (yes e) rest = ap (λ b. b || list_any (λ z. eqb z x) ys) (eq-eqb y x (sym e)) ∙ sym (ap (λ b. cond b true (is_in x ys)) (eq-eqb x y e))
    go (no n) rest =
        ap (λ b. b || list_any (λ z. eqb z x) ys) (ne_eqb y x (λ e. n (sym e)))
        ∙ rest
        ∙ sym (ap (λ b. cond b true (is_in x ys)) (ne_eqb x y n))

-- whether x is found there is whether it is in the list
pub seen_by : (x : ℕ) (xs ys : List ℕ) (found answer : Bool) → ys ≡ xs → found ≡ list_any (λ y. eqb y x) ys → found ≡ answer → is_in x xs ≡ answer
seen_by x xs ys found answer e f r = sym (contains_is x xs) ∙ ap (list_any (λ y. eqb y x)) (sym e) ∙ sym f ∙ r

-- ── there are at most eight ──

-- 1 if the variable 128 + i is in the list
abbrev pub held : List ℕ → ℕ → ℕ
held xs i = cond (is_in (128 + i) xs) 1 0

-- no more elements than there are variables among them: each stands once
abbrev pub Once : List ℕ → Type 0
Once xs = length xs ≤ total (held xs) 8

is_in_more : (x y : ℕ) (xs : List ℕ) → cond (is_in x xs) 1 0 ≤ cond (is_in x (xs ++ y ∷ [])) 1 0
is_in_more x y [] = omega arith
is_in_more x y (z ∷ zs) = go (eqb x z) (is_in_more x y zs)
  where
    go : (b : Bool) → cond (is_in x zs) 1 0 ≤ cond (is_in x (zs ++ y ∷ [])) 1 0 → cond (cond b true (is_in x zs)) 1 0 ≤ cond (cond b true (is_in x (zs ++ y ∷ []))) 1 0
    go true h = omega arith
    go false h = h

is_in_last : (x : ℕ) (xs : List ℕ) → is_in x (xs ++ x ∷ []) ≡ true
is_in_last x [] = ap (λ b. cond b true false) (eq-eqb x x refl)
is_in_last x (z ∷ zs) = ap (cond (eqb x z) true) (is_in_last x zs) ∙ either (eqb x z)
  where
    either : (b : Bool) → cond b true true ≡ true
    either true = refl
    either false = refl

once_none : Once []
once_none = omega arith

pub once_more : (x : ℕ) (xs : List ℕ) → 128 ≤ x → x < 136 → is_in x xs ≡ false → Once xs → Once (xs ++ x ∷ [])
once_more x xs l m e o =
    let more = total_lt (held xs) (held (xs ++ x ∷ [])) 8 (x - 128) (λ i h. is_in_more (128 + i) x xs) (omega arith) now_in in
    let n = length-append xs (x ∷ []) in
    omega arith
  where
    same : 128 + (x - 128) ≡ x
    same = omega arith

    now_in : held xs (x - 128) < held (xs ++ x ∷ []) (x - 128)
    now_in =
        let a : held xs (x - 128) ≡ 0 = ap (λ b. cond b 1 0) (ap (λ z. is_in z xs) same ∙ e) in
        let b : held (xs ++ x ∷ []) (x - 128) ≡ 1 = ap (λ b. cond b 1 0) (ap (λ z. is_in z (xs ++ x ∷ [])) same ∙ is_in_last x xs) in
        omega arith

pub once_few : (xs : List ℕ) → Once xs → length xs ≤ 8
once_few xs o = let h = total_most (held xs) 8 (λ i. at_most_one (is_in (128 + i) xs)) in omega arith

-- ── what is seen ──

module _ (before codes : List ℕ) (i : ℕ) (h : i < length codes) where
  seen_next : seen_among before (drop i codes) ≡ seen_among (cond (ltb (get_or codes i 0) 128) before (cond (is_in (get_or codes i 0) before) before (before ++ get_or codes i 0 ∷ []))) (drop (i + 1) codes)
  seen_next = ap (seen_among before) (drop_more codes i 0 h)

  pub seen_symbol : get_or codes i 0 < 128 → seen_among before (drop i codes) ≡ seen_among before (drop (i + 1) codes)
  seen_symbol l = seen_next ∙ ap (λ b. seen_among (cond b before (cond (is_in (get_or codes i 0) before) before (before ++ get_or codes i 0 ∷ []))) (drop (i + 1) codes)) (lt-ltb (get_or codes i 0) 128 l)

  seen_variable : 128 ≤ get_or codes i 0 → (b : Bool) → is_in (get_or codes i 0) before ≡ b → seen_among before (drop i codes) ≡ seen_among (cond b before (before ++ get_or codes i 0 ∷ [])) (drop (i + 1) codes)
  seen_variable l b e =
      seen_next
      ∙ ap₂ (λ a c. seen_among (cond a before (cond c before (before ++ get_or codes i 0 ∷ []))) (drop (i + 1) codes)) (le-ltb (get_or codes i 0) 128 l) e

  pub seen_old : 128 ≤ get_or codes i 0 → is_in (get_or codes i 0) before ≡ true → seen_among before (drop i codes) ≡ seen_among before (drop (i + 1) codes)
  seen_old l e = seen_variable l true e

  pub seen_new : 128 ≤ get_or codes i 0 → is_in (get_or codes i 0) before ≡ false → seen_among before (drop i codes) ≡ seen_among (before ++ get_or codes i 0 ∷ []) (drop (i + 1) codes)
  seen_new l e = seen_variable l false e

-- The search for x among the variables has come to r.
module _ (variables : List ℕ) (x r : ℕ) where
  pub seen_before : r ≤ length variables → (r < length variables → get_or variables r 0 ≡ x) → ¬ (r ≡ length variables) → is_in x variables ≡ true
  seen_before h at ne = is_in_yes x variables r (omega arith) (at (omega arith))

  pub not_seen : ((k : ℕ) → k < r → get_or variables k 0 ≡ x → ⊥) → r ≡ length variables → is_in x variables ≡ false
  not_seen before e = is_in_no x variables (λ k h. before k (omega arith))

-- there is room for one that is new
pub seen_room : (variables : List ℕ) (x : ℕ) → 128 ≤ x → x < 136 → is_in x variables ≡ false → Once variables → length variables < 8
seen_room variables x l m e o =
    let few = once_few (variables ++ x ∷ []) (once_more x variables l m e o) in
    omega (arith, length-append variables (x ∷ []))

-- the variables are those among the codes before i
pub record SeenUpTo (codes variables : List ℕ) (i : ℕ) : Type 0 where
  pub once : Once variables
  pub same : seen_among variables (drop i codes) ≡ seen_among [] codes

pub seen_none : (codes variables : List ℕ) → variables ≡ [] → SeenUpTo codes variables 0
seen_none codes variables e = subst (λ z. SeenUpTo codes z 0) (sym e) (record { once = once_none; same = refl })

pub seen_as : (codes old new : List ℕ) (i : ℕ) → new ≡ old → SeenUpTo codes old i → SeenUpTo codes new i
seen_as codes old new i p s = subst (λ z. SeenUpTo codes z i) (sym p) s

pub seen_all : (codes variables : List ℕ) (i : ℕ) → length codes ≤ i → SeenUpTo codes variables i → variables ≡ seen_among [] codes
seen_all codes variables i h s = sym (ap (seen_among variables) (drop_all i codes h)) ∙ s.same

module _ (codes variables : List ℕ) (i : ℕ) (h : i < length codes) (s : SeenUpTo codes variables i) where
  pub turn_stays : seen_among variables (drop i codes) ≡ seen_among variables (drop (i + 1) codes) → SeenUpTo codes variables (i + 1)
  turn_stays e = record { once = s.once; same = sym e ∙ s.same }

  pub turn_new : (new : List ℕ) → new ≡ variables ++ get_or codes i 0 ∷ [] → 128 ≤ get_or codes i 0 → get_or codes i 0 < 136 → is_in (get_or codes i 0) variables ≡ false → SeenUpTo codes new (i + 1)
  turn_new new is l m e =
      subst (λ z. SeenUpTo codes z (i + 1)) (sym is)
      (record {
        once = once_more (get_or codes i 0) variables l m e s.once;
        same = sym (seen_new variables codes i h l e) ∙ s.same;
      })

-- the variables of a term are those among its codes
pub seen_prefix : {k : Kind} (sig : Arities) (n : ℕ) (t : Tree k) (before bs : List ℕ) → WellSorted sig n t → seen_among before (prefix t ++ bs) ≡ seen_among (seen before t) bs
seen_prefix sig n (var x) before bs w = ap (λ b. seen_among (cond b before (cond (is_in x before) before (before ++ x ∷ []))) bs) (le-ltb x 128 w.0)
seen_prefix sig n (node f ts) before bs w =
    ap (λ b. seen_among (cond b before (cond (is_in f before) before (before ++ f ∷ []))) (prefix ts ++ bs)) (lt-ltb f 128 w.0)
    ∙ seen_prefix sig n ts before bs w.2
seen_prefix sig n nil before bs w = refl
seen_prefix sig n (cons t ts) before bs w =
    ap (seen_among before) (append_assoc (prefix t) (prefix ts) bs)
    ∙ seen_prefix sig n t before (prefix ts ++ bs) w.0
    ∙ seen_prefix sig n ts (seen before t) bs w.1

-- ── renumbering ──

pub expand_more : (h : ℕ → List ℕ) (old mid new : List ℕ) (i y : ℕ) → i < length old → mid ≡ expand h (take i old) → h (get_or old i 0) ≡ y ∷ [] → new ≡ mid ++ y ∷ [] → new ≡ expand h (take (i + 1) old)
expand_more h old mid new i y a e f n =
    n
    ∙ ap₂ (λ p q. p ++ q) e (sym f ∙ sym (append-nil (h (get_or old i 0))))
    ∙ sym (ap (expand h) (take_more old i 0 a) ∙ expand_append h (take i old) (get_or old i 0 ∷ []))
