-- Places in a term: an offset into the prefix form is the same as a context.
use Rattle.std.proofs.Common.{◌≡◌, ℕ, zero, suc, ◌+◌, ◌-◌, ◌<◌, List, [], ◌∷◌, ◌++◌, length, take, drop, sym, refl, ap, ◌∙◌, subst, ap₂, append_assoc, append-nil, one-add, arith, length-append, le-ltb, lt-ltb}
use native.Mathlib.Decide.{dec_lt}
use Rattle.std.proofs.lemmas.List.{take_at, drop_at, drop-drop}
use Rattle.terms.specs.Term.{Kind, one, many, Tree, var, node, nil, cons, Term, size}
use Rattle.terms.specs.Prefix.{prefix}
use Rattle.terms.specs.Place.{Context, hole, under, head, tail, plug, one_later, position, place, part, replace, PartAt}
use Rattle.terms.specs.Theorems.{OnePartAtEachPlace, PartsAgreeWithContexts, BytesAtAPlace, PositionTellsThePart}
use Rattle.terms.proofs.Reading.{prefix_length, size_pos}

add_sub_left : (m n : ℕ) → (m + n) - m ≡ n
add_sub_left m n = omega arith

-- the bytes before the hole, and those behind it
abbrev pub bytes_before : {k : Kind} → Context k → List ℕ
bytes_before hole = []
bytes_before (under f C) = f ∷ bytes_before C
bytes_before (head C ts) = bytes_before C
bytes_before (tail t C) = prefix t ++ bytes_before C

abbrev pub bytes_behind : {k : Kind} → Context k → List ℕ
bytes_behind hole = []
bytes_behind (under f C) = bytes_behind C
bytes_behind (head C ts) = bytes_behind C ++ prefix ts
bytes_behind (tail t C) = bytes_behind C

pub prefix_plug : {k : Kind} (C : Context k) (s : Term) → prefix (plug C s) ≡ bytes_before C ++ (prefix s ++ bytes_behind C)
prefix_plug hole s = sym (append-nil (prefix s))
prefix_plug (under f C) s = ap (λ xs. f ∷ xs) (prefix_plug C s)
prefix_plug (head C ts) s = rw (prefix_plug C s) (simp append_assoc)
prefix_plug (tail t C) s = rw (prefix_plug C s) (simp append_assoc)

pub before_length : {k : Kind} (C : Context k) → length (bytes_before C) ≡ place C
before_length hole = refl
before_length (under f C) = let h = before_length C in omega arith
before_length (head C ts) = before_length C
before_length (tail t C) = let a = prefix_length t in let b = before_length C in simp length-append (omega arith)

-- every place in the prefix form is that of one part
pub part_at : {k : Kind} (t : Tree k) (p : ℕ) → p < size t → PartAt t p
part_at (var x) p h = record { context = hole; term = var x; splits = refl; at = omega arith }
part_at (node f ts) zero h = record { context = hole; term = node f ts; splits = refl; at = refl }
part_at (node f ts) (suc p) h =
    let r = part_at ts p (omega arith) in
    record { context = under f r.context; term = r.term; splits = ap (node f) r.splits; at = let e = r.at in omega arith }
part_at nil p h = absurd (omega arith)
part_at (cons t ts) p h = go (dec_lt p (size t)) (part_at t p) (part_at ts (p - size t))
  where
    go : Dec (p < size t) → (p < size t → PartAt t p) → (p - size t < size ts → PartAt ts (p - size t)) → PartAt (cons t ts) p
    go (yes l) first rest =
        let r = first l in
        record { context = head r.context ts; term = r.term; splits = ap (λ u. cons u ts) r.splits; at = r.at }
    go (no n) first rest =
        let r = rest (omega arith) in
        record { context = tail t r.context; term = r.term; splits = ap (cons t) r.splits; at = let e = r.at in omega arith }

-- the place of a part is inside of the whole
pub place_below : {k : Kind} (C : Context k) (s : Term) → place C < size (plug C s)
place_below hole s = size_pos s
place_below (under f C) s = let h = place_below C s in omega arith
place_below (head C ts) s = let h = place_below C s in omega arith
place_below (tail t C) s = let h = place_below C s in omega arith

-- one place of one term is one context
pub place_unique : {k : Kind} (C D : Context k) (s u : Term) → plug C s ≡ plug D u → place C ≡ place D → (C ≡ D) × (s ≡ u)
place_unique hole hole s u e o = (refl, e)
place_unique hole (under g D) s u e o = absurd (omega arith)
place_unique (under f C) hole s u e o = absurd (omega arith)
place_unique (under f C) (under g D) s u e o =
    let r = place_unique C D s u (cc) (omega arith) in
    let same : f ≡ g = cc in
    (ap₂ under same r.0, r.1)
place_unique (head C ts) (head D us) s u e o =
    let r = place_unique C D s u (cc) o in
    let same : ts ≡ us = cc in
    (ap₂ head r.0 same, r.1)
place_unique (head C ts) (tail v D) s u e o =
    let a : plug C s ≡ v = cc in
    let b = place_below C s in
    let c = ap size a in
    absurd (omega arith)
place_unique (tail v C) (head D us) s u e o =
    let a : v ≡ plug D u = cc in
    let b = place_below D u in
    let c = ap size a in
    absurd (omega arith)
place_unique (tail t C) (tail v D) s u e o =
    let same : t ≡ v = cc in
    let z = ap size same in
    let r = place_unique C D s u (cc) (omega arith) in
    (ap₂ tail same r.0, r.1)

pub one_part_at_each_place : OnePartAtEachPlace
one_part_at_each_place t p = (
  part_at t p,
  (λ a. subst (λ v. p < size v) (sym a.splits) (subst (λ q. q < size (plug a.context a.term)) a.at (place_below a.context a.term))),
  (λ a b. place_unique a.context b.context a.term b.term (sym a.splits ∙ b.splits) (a.at ∙ sym b.at)),
)

-- ── the part at a place, and replacing it ──

pub part_plug : {k : Kind} (C : Context k) (q : Term) → part (plug C q) (place C) ≡ q
part_plug hole (var x) = refl
part_plug hole (node f ts) = refl
part_plug (under f C) q = rw one-add (part_plug C q)
part_plug (head C ts) q = let h = place_below C q in rw (lt-ltb (place C) (size (plug C q)) h) (part_plug C q)
part_plug (tail t C) q =
    rw (le-ltb (size t + place C) (size t) (omega arith))
    (rw (add_sub_left (size t) (place C)) (part_plug C q))

pub replace_plug : {k : Kind} (C : Context k) (q u : Term) → replace (plug C q) (place C) u ≡ plug C u
replace_plug hole (var x) u = refl
replace_plug hole (node f ts) u = refl
replace_plug (under f C) q u = rw one-add (ap (node f) (replace_plug C q u))
replace_plug (head C ts) q u =
    let h = place_below C q in
    rw (lt-ltb (place C) (size (plug C q)) h) (ap (λ t. cons t ts) (replace_plug C q u))
replace_plug (tail t C) q u =
    rw (le-ltb (size t + place C) (size t) (omega arith))
    (rw (add_sub_left (size t) (place C)) (ap (cons t) (replace_plug C q u)))

pub parts_agree_with_contexts : PartsAgreeWithContexts
parts_agree_with_contexts t p a = (
  ap₂ part a.splits (sym a.at) ∙ part_plug a.context a.term,
  λ u. ap₂ (λ v q. replace v q u) a.splits (sym a.at) ∙ replace_plug a.context a.term u,
)

-- ── the bytes at a place ──

module _ (C : Context one) (s : Term) where
  pub at_place : drop (place C) (prefix (plug C s)) ≡ prefix s ++ bytes_behind C
  at_place = ap (drop (place C)) (prefix_plug C s) ∙ drop_at (bytes_before C) (prefix s ++ bytes_behind C) (place C) (before_length C)

  before_place : take (place C) (prefix (plug C s)) ≡ bytes_before C
  before_place = ap (take (place C)) (prefix_plug C s) ∙ take_at (bytes_before C) (prefix s ++ bytes_behind C) (place C) (before_length C)

  behind_part : drop (place C + size s) (prefix (plug C s)) ≡ bytes_behind C
  behind_part =
      sym (drop-drop (size s) (place C) (prefix (plug C s))) ∙ ap (drop (size s)) at_place
      ∙ drop_at (prefix s) (bytes_behind C) (size s) (prefix_length s)

pub bytes_at_a_place : BytesAtAPlace
bytes_at_a_place C s u = (
  ap (take (size s)) (at_place C s) ∙ take_at (prefix s) (bytes_behind C) (size s) (prefix_length s),
  prefix_plug C u ∙ sym (ap₂ (λ a b. a ++ (prefix u ++ b)) (before_place C s) (behind_part C s)),
)

-- ── positions ──

-- the position of a hole in a list of terms begins with the number of a term, which is at least 1
pub record Numbered (π : List ℕ) : Type 0 where
  pub first : ℕ
  pub rest : List ℕ
  pub is : π ≡ suc first ∷ rest

numbered : (C : Context many) → Numbered (position C)
numbered (head C ts) = record { first = 0; rest = position C; is = refl }
numbered (tail t C) = let r = numbered C in record { first = suc r.first; rest = r.rest; is = ap one_later r.is }

clash : ◌≡◌ {A = ℕ} 0 1 → ⊥
clash z = omega arith

suc_same : {m n : ℕ} → suc m ≡ suc n → m ≡ n
suc_same e = omega arith

later_same : (π ρ : List ℕ) → Numbered π → Numbered ρ → one_later π ≡ one_later ρ → π ≡ ρ
later_same π ρ a b e =
    let f : suc (suc a.first) ∷ a.rest ≡ suc (suc b.first) ∷ b.rest = sym (ap one_later a.is) ∙ e ∙ ap one_later b.is in
    let g : suc (suc a.first) ≡ suc (suc b.first) = cc in
    let r : a.rest ≡ b.rest = cc in
    a.is ∙ ap₂ ◌∷◌ (suc_same g) r ∙ sym b.is

first_or_later : (π ρ : List ℕ) → Numbered ρ → 1 ∷ π ≡ one_later ρ → ⊥
first_or_later π ρ b e =
    let f : 1 ∷ π ≡ suc (suc b.first) ∷ b.rest = e ∙ ap one_later b.is in
    let g : 1 ≡ suc (suc b.first) = cc in
    omega arith

empty_or_numbered : (ρ : List ℕ) → Numbered ρ → [] ≡ ρ → ⊥
empty_or_numbered ρ b e = let f : [] ≡ suc b.first ∷ b.rest = e ∙ b.is in clash (cc)

position_unique : {k : Kind} (C D : Context k) (s u : Term) → plug C s ≡ plug D u → position C ≡ position D → (C ≡ D) × (s ≡ u)
position_unique hole hole s u e o = (refl, e)
position_unique hole (under g D) s u e o = absurd (empty_or_numbered (position D) (numbered D) o)
position_unique (under f C) hole s u e o = absurd (empty_or_numbered (position C) (numbered C) (sym o))
position_unique (under f C) (under g D) s u e o =
    let r = position_unique C D s u (cc) o in
    let same : f ≡ g = cc in
    (ap₂ under same r.0, r.1)
position_unique (head C ts) (head D us) s u e o =
    let r = position_unique C D s u (cc) (cc) in
    let same : ts ≡ us = cc in
    (ap₂ head r.0 same, r.1)
position_unique (head C ts) (tail v D) s u e o = absurd (first_or_later (position C) (position D) (numbered D) o)
position_unique (tail v C) (head D us) s u e o = absurd (first_or_later (position D) (position C) (numbered C) (sym o))
position_unique (tail t C) (tail v D) s u e o =
    let same : t ≡ v = cc in
    let r = position_unique C D s u (cc) (later_same (position C) (position D) (numbered C) (numbered D) o) in
    (ap₂ tail same r.0, r.1)

pub position_tells_the_part : PositionTellsThePart
position_tells_the_part C D s u e o = position_unique C D s u e o
