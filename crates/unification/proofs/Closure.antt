-- The closure's steps: the classes at the start, and the merging of two of them.
use Rattle.std.proofs.Common.{◌≡◌, ℕ, ◌+◌, ◌<◌, ◌≤◌, cond, eqb, ◌≢◌, ◌⊎◌, List, length, get_or, set, sym, refl, ap, ◌∙◌, subst, inl, inr, arith, get_or-set_other, get_or-set_same, below_more, eq-eqb, ne_eqb}
use native.Mathlib.Decide.{dec_lt, ℕ_discrete}
use Rattle.std.proofs.lemmas.Bool.{cases_lt}
use Rattle.terms.specs.Term.{var, node, Term, Terms, Subst, sub}
use Rattle.terms.specs.Prefix.{Arities}
use Rattle.unification.specs.Standing.{Stands, IsForest}
use Rattle.unification.specs.Classes.{Classes, Equates, Split, Relabelled, Merged, Clash, Initial, Progress, NoSolution}
use Rattle.unification.proofs.StandingFacts.{stands_below, stands_one, stands_at, is_var, is_node}
use Rattle.unification.proofs.Counting.{total, total_lt}

-- ── the start ──

pub initial_more : (g rep : List ℕ) (i r : ℕ) → i < length rep → ((k : ℕ) → k < i → Initial g k (get_or rep k 0)) → Initial g i r → (k : ℕ) → k < i + 1 → Initial g k (get_or (set rep i r) k 0)
initial_more g rep i r b before here =
    below_more (λ k. Initial g k (get_or (set rep i r) k 0)) i
    (λ k h. let ne : k ≢ i = omega arith in rw get_or-set_other (before k h))
    (rw get_or-set_same here)

pub initial_variable : (g : List ℕ) (i r : ℕ) → i < length g → 128 ≤ get_or g i 0 → ((k : ℕ) → k < r → get_or g k 0 ≡ get_or g i 0 → ⊥) → (r < length g → get_or g r 0 ≡ get_or g i 0) → Initial g i r
initial_variable g i r b v before found = go (dec_lt i r)
  where
    go : Dec (i < r) → Initial g i r
    go (yes l) = absurd (before i l refl)
    go (no n) = let h : r < length g = omega arith in record { inside = h; code = found h; symbol = λ f. absurd (omega arith); first = λ t. before }

pub initial_symbol : (g : List ℕ) (i : ℕ) → i < length g → get_or g i 0 < 128 → Initial g i i
initial_symbol g i b v = record { inside = b; code = refl; symbol = λ f. refl; first = λ t. absurd (omega arith) }

-- a code is a variable or a symbol
pub kind_of : (c : ℕ) → (128 ≤ c) ⊎ (c < 128)
kind_of c = elim (cases_lt c 128) [ inl h ↦ inr h | inr h ↦ inl h ]

least : (a b : ℕ) (P : ℕ → Type 0) → P a → P b → ((k : ℕ) → k < a → ¬ P k) → ((k : ℕ) → k < b → ¬ P k) → a ≡ b
least a b P pa pb la lb = go (dec_lt a b) (dec_lt b a)
  where
    go : Dec (a < b) → Dec (b < a) → a ≡ b
    go (yes l) d = absurd (lb a l pa)
    go (no n) (yes l) = absurd (la b l pb)
    go (no n) (no m) = omega arith

-- two occurrences of a variable have the same first one
first_same : (g : List ℕ) (i j r s : ℕ) → 128 ≤ get_or g i 0 → get_or g i 0 ≡ get_or g j 0 → Initial g i r → Initial g j s → r ≡ s
first_same g i j r s v e a b =
    let w : 128 ≤ get_or g j 0 = subst (λ z. 128 ≤ z) e v in
    least r s (λ k. get_or g k 0 ≡ get_or g i 0) a.code (b.code ∙ sym e) (a.first v) (λ k l h. b.first w k l (h ∙ e))

pub initial_classes : (g rep : List ℕ) → length rep ≡ length g → ((i : ℕ) → i < length g → Initial g i (get_or rep i 0)) → Classes g rep
initial_classes g rep n at =
    record {
      as_many = n;
      inside = λ i h. (at i h).inside;
      own = λ i h. go i h (kind_of (get_or g i 0));
      symbol = λ i h v. (at i h).code;
      shared = λ i j h k v e. first_same g i j (get_or rep i 0) (get_or rep j 0) v e (at i h) (at j k);
    }
  where
    go : (i : ℕ) → i < length g → (128 ≤ get_or g i 0) ⊎ (get_or g i 0 < 128) → get_or rep (get_or rep i 0) 0 ≡ get_or rep i 0
    go i h (inl v) = sym (first_same g i (get_or rep i 0) (get_or rep i 0) (get_or rep (get_or rep i 0) 0) v (sym (at i h).code) (at i h) (at (get_or rep i 0) (at i h).inside))
    go i h (inr v) = ap (λ z. get_or rep z 0) ((at i h).symbol v)

pub initial_equates : (sig : Arities) (g rep : List ℕ) → ((i : ℕ) → i < length g → Initial g i (get_or rep i 0)) → (σ : Subst) → Equates sig g rep σ
initial_equates sig g rep at σ i s t h k = go (kind_of (get_or g i 0))
  where
    x : Initial g i (get_or rep i 0)
    x = at i (stands_below sig g i s h)

    go : (128 ≤ get_or g i 0) ⊎ (get_or g i 0 < 128) → sub σ s ≡ sub σ t
    go (inl v) =
        let a = is_var sig g i s h v in
        let b = is_var sig g (get_or rep i 0) t k (subst (λ z. 128 ≤ z) (sym x.code) v) in
        ap (sub σ) (a ∙ ap var (sym x.code) ∙ sym b)
    go (inr v) = ap (sub σ) (stands_one sig g i s t h (subst (λ z. Stands sig g z t) (x.symbol v) k))

-- ── a merge ──

-- an entry was relabelled, or is as it was
relabel_cases : (lose keep : ℕ) (old new : List ℕ) → Relabelled lose keep old new → (i : ℕ) → i < length old → ((get_or old i 0 ≡ lose) × (get_or new i 0 ≡ keep)) ⊎ ((¬ (get_or old i 0 ≡ lose)) × (get_or new i 0 ≡ get_or old i 0))
relabel_cases lose keep old new r i h = go (ℕ_discrete (get_or old i 0) lose)
  where
    go : Dec (get_or old i 0 ≡ lose) → ((get_or old i 0 ≡ lose) × (get_or new i 0 ≡ keep)) ⊎ ((¬ (get_or old i 0 ≡ lose)) × (get_or new i 0 ≡ get_or old i 0))
    go (yes e) = inl (e, r i h ∙ ap (λ b. cond b keep (get_or old i 0)) (eq-eqb (get_or old i 0) lose e))
    go (no n) = inr (n, r i h ∙ ap (λ b. cond b keep (get_or old i 0)) (ne_eqb (get_or old i 0) lose n))

-- what is known of the two representatives
record Two (g old : List ℕ) (lose keep : ℕ) : Type 0 where
  lose_inside : lose < length g
  keep_inside : keep < length g
  lose_own : get_or old lose 0 ≡ lose
  keep_own : get_or old keep 0 ≡ keep
  apart : ¬ (lose ≡ keep)

two : (g old new : List ℕ) (a b : ℕ) → Classes g old → a < length g → b < length g → ¬ (get_or old a 0 ≡ get_or old b 0) → (m : Merged g old new (get_or old a 0) (get_or old b 0)) → Two g old m.lose m.keep
two g old new a b c ha hb n m = go m.lose m.keep m.either
  where
    go : (l k : ℕ) → ((l ≡ get_or old a 0) × (k ≡ get_or old b 0)) ⊎ ((l ≡ get_or old b 0) × (k ≡ get_or old a 0)) → Two g old l k
    go l k (inl e) =
        record {
          lose_inside = subst (λ z. z < length g) (sym e.0) (c.inside a ha);
          keep_inside = subst (λ z. z < length g) (sym e.1) (c.inside b hb);
          lose_own = subst (λ z. get_or old z 0 ≡ z) (sym e.0) (c.own a ha);
          keep_own = subst (λ z. get_or old z 0 ≡ z) (sym e.1) (c.own b hb);
          apart = λ p. n (sym e.0 ∙ p ∙ e.1);
        }
    go l k (inr e) =
        record {
          lose_inside = subst (λ z. z < length g) (sym e.0) (c.inside b hb);
          keep_inside = subst (λ z. z < length g) (sym e.1) (c.inside a ha);
          lose_own = subst (λ z. get_or old z 0 ≡ z) (sym e.0) (c.own b hb);
          keep_own = subst (λ z. get_or old z 0 ≡ z) (sym e.1) (c.own a ha);
          apart = λ p. n (sym e.1 ∙ sym p ∙ e.0);
        }

-- entries that were the same are the same
relabel_same : (lose keep : ℕ) (old new : List ℕ) → Relabelled lose keep old new → (i j : ℕ) → i < length old → j < length old → get_or old i 0 ≡ get_or old j 0 → get_or new i 0 ≡ get_or new j 0
relabel_same lose keep old new r i j hi hj e = r i hi ∙ ap (λ z. cond (eqb z lose) keep z) e ∙ sym (r j hj)

pub merged_classes : (g old new : List ℕ) (a b : ℕ) → Classes g old → length new ≡ length g → a < length g → b < length g → ¬ (get_or old a 0 ≡ get_or old b 0) → Merged g old new (get_or old a 0) (get_or old b 0) → Classes g new
merged_classes g old new a b c len ha hb n m =
    record {
      as_many = len;
      inside = λ i h. inside i (cases i h) h;
      own = λ i h. own i (cases i h) h;
      symbol = λ i h v. symbol i (cases i h) h v;
      shared = λ i j h k v e. relabel_same m.lose m.keep old new m.relabelled i j (old_has i h) (old_has j k) (c.shared i j h k v e);
    }
  where
    t : Two g old m.lose m.keep
    t = two g old new a b c ha hb n m

    old_has : (i : ℕ) → i < length g → i < length old
    old_has i h = let e = c.as_many in omega arith

    cases : (i : ℕ) → i < length g → ((get_or old i 0 ≡ m.lose) × (get_or new i 0 ≡ m.keep)) ⊎ ((¬ (get_or old i 0 ≡ m.lose)) × (get_or new i 0 ≡ get_or old i 0))
    cases i h = relabel_cases m.lose m.keep old new m.relabelled i (old_has i h)

    inside : (i : ℕ) → ((get_or old i 0 ≡ m.lose) × (get_or new i 0 ≡ m.keep)) ⊎ ((¬ (get_or old i 0 ≡ m.lose)) × (get_or new i 0 ≡ get_or old i 0)) → i < length g → get_or new i 0 < length g
    inside i (inl e) h = subst (λ z. z < length g) (sym e.1) t.keep_inside
    inside i (inr e) h = subst (λ z. z < length g) (sym e.1) (c.inside i h)

    -- the kept representative keeps its own
    kept : get_or new m.keep 0 ≡ m.keep
    kept = go (cases m.keep t.keep_inside)
      where
        go : ((get_or old m.keep 0 ≡ m.lose) × (get_or new m.keep 0 ≡ m.keep)) ⊎ ((¬ (get_or old m.keep 0 ≡ m.lose)) × (get_or new m.keep 0 ≡ get_or old m.keep 0)) → get_or new m.keep 0 ≡ m.keep
        go (inl e) = e.1
        go (inr e) = e.1 ∙ t.keep_own

    own : (i : ℕ) → ((get_or old i 0 ≡ m.lose) × (get_or new i 0 ≡ m.keep)) ⊎ ((¬ (get_or old i 0 ≡ m.lose)) × (get_or new i 0 ≡ get_or old i 0)) → i < length g → get_or new (get_or new i 0) 0 ≡ get_or new i 0
    own i (inl e) h = subst (λ z. get_or new z 0 ≡ z) (sym e.1) kept
    own i (inr e) h =
        subst (λ z. get_or new z 0 ≡ z) (sym e.1)
        (relabel_same m.lose m.keep old new m.relabelled (get_or old i 0) i (old_has (get_or old i 0) (c.inside i h)) (old_has i h) (c.own i h) ∙ e.1)

    symbol : (i : ℕ) → ((get_or old i 0 ≡ m.lose) × (get_or new i 0 ≡ m.keep)) ⊎ ((¬ (get_or old i 0 ≡ m.lose)) × (get_or new i 0 ≡ get_or old i 0)) → i < length g → get_or g i 0 < 128 → get_or g (get_or new i 0) 0 ≡ get_or g i 0
    symbol i (inl e) h v =
        let code : get_or g m.lose 0 ≡ get_or g i 0 = subst (λ z. get_or g z 0 ≡ get_or g i 0) e.0 (c.symbol i h v) in
        subst (λ z. get_or g z 0 ≡ get_or g i 0) (sym e.1) (m.symbol (subst (λ z. z < 128) (sym code) v) ∙ code)
    symbol i (inr e) h v = subst (λ z. get_or g z 0 ≡ get_or g i 0) (sym e.1) (c.symbol i h v)

-- the classes of a and b are one
pub merged_same : (g old new : List ℕ) (i j : ℕ) (x y : ℕ) → i < length old → j < length old → Merged g old new x y → get_or old i 0 ≡ get_or old j 0 → get_or new i 0 ≡ get_or new j 0
merged_same g old new i j x y hi hj m e = relabel_same m.lose m.keep old new m.relabelled i j hi hj e

pub merged_joins : (g old new : List ℕ) (a b : ℕ) → a < length old → b < length old → Merged g old new (get_or old a 0) (get_or old b 0) → get_or new a 0 ≡ get_or new b 0
merged_joins g old new a b ha hb m = go m.either (relabel_cases m.lose m.keep old new m.relabelled a ha) (relabel_cases m.lose m.keep old new m.relabelled b hb)
  where
    go : ((m.lose ≡ get_or old a 0) × (m.keep ≡ get_or old b 0)) ⊎ ((m.lose ≡ get_or old b 0) × (m.keep ≡ get_or old a 0)) → ((get_or old a 0 ≡ m.lose) × (get_or new a 0 ≡ m.keep)) ⊎ ((¬ (get_or old a 0 ≡ m.lose)) × (get_or new a 0 ≡ get_or old a 0)) → ((get_or old b 0 ≡ m.lose) × (get_or new b 0 ≡ m.keep)) ⊎ ((¬ (get_or old b 0 ≡ m.lose)) × (get_or new b 0 ≡ get_or old b 0)) → get_or new a 0 ≡ get_or new b 0
    go (inl e) (inl p) (inl q) = p.1 ∙ sym q.1
    go (inl e) (inl p) (inr q) = p.1 ∙ e.1 ∙ sym q.1
    go (inl e) (inr p) q = absurd (p.0 (sym e.0))
    go (inr e) p (inr q) = absurd (q.0 (sym e.0))
    go (inr e) (inl p) (inl q) = p.1 ∙ sym q.1
    go (inr e) (inr p) (inl q) = p.1 ∙ sym e.1 ∙ sym q.1

-- what makes the terms of the classes, and those of the two, equal makes those of the new classes equal
pub merged_equates : (sig : Arities) (g old new : List ℕ) (a b : ℕ) → IsForest sig g → Classes g old → a < length g → b < length g → Merged g old new (get_or old a 0) (get_or old b 0) → (σ : Subst) → Equates sig g old σ → ((u v : Term) → Stands sig g a u → Stands sig g b v → sub σ u ≡ sub σ v) → Equates sig g new σ
merged_equates sig g old new a b forest c ha hb m σ eq both i s t h k = go (cases)
  where
    cases : ((get_or old i 0 ≡ m.lose) × (get_or new i 0 ≡ m.keep)) ⊎ ((¬ (get_or old i 0 ≡ m.lose)) × (get_or new i 0 ≡ get_or old i 0))
    cases = relabel_cases m.lose m.keep old new m.relabelled i (let e = c.as_many in let l = stands_below sig g i s h in omega arith)

    -- the terms of the two representatives
    reps : (u v : Term) → Stands sig g (get_or old a 0) u → Stands sig g (get_or old b 0) v → sub σ u ≡ sub σ v
    reps u v hu hv =
        let p = stands_at sig g a forest ha in
        let q = stands_at sig g b forest hb in
        sym (eq a p.0 u p.1 hu) ∙ both p.0 q.0 p.1 q.1 ∙ eq b q.0 v q.1 hv

    crossing : ((m.lose ≡ get_or old a 0) × (m.keep ≡ get_or old b 0)) ⊎ ((m.lose ≡ get_or old b 0) × (m.keep ≡ get_or old a 0)) → (u v : Term) → Stands sig g m.lose u → Stands sig g m.keep v → sub σ u ≡ sub σ v
    crossing (inl e) u v hu hv = reps u v (subst (λ z. Stands sig g z u) e.0 hu) (subst (λ z. Stands sig g z v) e.1 hv)
    crossing (inr e) u v hu hv = sym (reps v u (subst (λ z. Stands sig g z v) e.1 hv) (subst (λ z. Stands sig g z u) e.0 hu))

    go : ((get_or old i 0 ≡ m.lose) × (get_or new i 0 ≡ m.keep)) ⊎ ((¬ (get_or old i 0 ≡ m.lose)) × (get_or new i 0 ≡ get_or old i 0)) → sub σ s ≡ sub σ t
    go (inl e) =
        let u = stands_at sig g (get_or old i 0) forest (c.inside i (stands_below sig g i s h)) in
        eq i s u.0 h u.1 ∙ crossing m.either u.0 t (subst (λ z. Stands sig g z u.0) e.0 u.1) (subst (λ z. Stands sig g z t) e.1 k)
    go (inr e) = eq i s t h (subst (λ z. Stands sig g z t) e.1 k)

-- different symbols cannot be made equal
pub clash_differs : (sig : Arities) (g rep : List ℕ) (a b : ℕ) → IsForest sig g → Classes g rep → a < length g → b < length g → Clash g (get_or rep a 0) (get_or rep b 0) → (σ : Subst) → Equates sig g rep σ → ((u v : Term) → Stands sig g a u → Stands sig g b v → sub σ u ≡ sub σ v) → ⊥
clash_differs sig g rep a b forest c ha hb d σ eq both =
    let p = stands_at sig g a forest ha in
    let q = stands_at sig g b forest hb in
    let x = stands_at sig g (get_or rep a 0) forest (c.inside a ha) in
    let y = stands_at sig g (get_or rep b 0) forest (c.inside b hb) in
    let same : sub σ x.0 ≡ sub σ y.0 = sym (eq a p.0 x.0 p.1 x.1) ∙ both p.0 q.0 p.1 q.1 ∙ eq b q.0 y.0 q.1 y.1 in
    let f = is_node sig g (get_or rep a 0) x.0 x.1 d.left in
    let h = is_node sig g (get_or rep b 0) y.0 y.1 d.right in
    d.differ (heads (get_or g (get_or rep a 0) 0) (get_or g (get_or rep b 0) 0) (sub σ f.0) (sub σ h.0) (sym (ap (sub σ) f.1) ∙ same ∙ ap (sub σ) h.1))
  where
    heads : (e f : ℕ) (ss ts : Terms) → node e ss ≡ node f ts → e ≡ f
    heads e f ss ts p = cc

-- ── the number of classes falls ──

-- 1 for a representative, and 0 for every other offset
abbrev pub represents : List ℕ → ℕ → ℕ
represents rep i = cond (eqb (get_or rep i 0) i) 1 0

pub merged_fewer : (g old new : List ℕ) (a b : ℕ) → Classes g old → a < length g → b < length g → ¬ (get_or old a 0 ≡ get_or old b 0) → Merged g old new (get_or old a 0) (get_or old b 0) → total (represents new) (length g) < total (represents old) (length g)
merged_fewer g old new a b c ha hb n m =
    total_lt (represents new) (represents old) (length g) m.lose (λ i h. le i (cases i h)) t.lose_inside
    (lt (cases m.lose t.lose_inside))
  where
    t : Two g old m.lose m.keep
    t = two g old new a b c ha hb n m

    cases : (i : ℕ) → i < length g → ((get_or old i 0 ≡ m.lose) × (get_or new i 0 ≡ m.keep)) ⊎ ((¬ (get_or old i 0 ≡ m.lose)) × (get_or new i 0 ≡ get_or old i 0))
    cases i h = relabel_cases m.lose m.keep old new m.relabelled i (let e = c.as_many in omega arith)

    zero_at : (i : ℕ) → ¬ (get_or new i 0 ≡ i) → represents new i ≡ 0
    zero_at i k = ap (λ b. cond b 1 0) (ne_eqb (get_or new i 0) i k)

    le : (i : ℕ) → ((get_or old i 0 ≡ m.lose) × (get_or new i 0 ≡ m.keep)) ⊎ ((¬ (get_or old i 0 ≡ m.lose)) × (get_or new i 0 ≡ get_or old i 0)) → represents new i ≤ represents old i
    le i (inl e) =
        let z = zero_at i (λ p. t.apart (sym e.0 ∙ ap (λ k. get_or old k 0) (sym p ∙ e.1) ∙ t.keep_own)) in
        omega arith
    le i (inr e) = let z : represents new i ≡ represents old i = ap (λ k. cond (eqb k i) 1 0) e.1 in omega arith

    lt : ((get_or old m.lose 0 ≡ m.lose) × (get_or new m.lose 0 ≡ m.keep)) ⊎ ((¬ (get_or old m.lose 0 ≡ m.lose)) × (get_or new m.lose 0 ≡ get_or old m.lose 0)) → represents new m.lose < represents old m.lose
    lt (inl e) =
        let z = zero_at m.lose (λ p. t.apart (sym p ∙ e.1)) in
        let o : represents old m.lose ≡ 1 = ap (λ b. cond b 1 0) (eq-eqb (get_or old m.lose 0) m.lose e.0) in
        omega arith
    lt (inr e) = absurd (e.0 t.lose_own)

-- ── the loop ──

pub progress_none : (sig : Arities) (g rep : List ℕ) → Classes g rep → Progress sig g rep rep
progress_none sig g rep c = record { classes = c; keeps = λ σ e. e; same = λ i j hi hj e. e }

-- a split pair is made equal by what makes the classes equal
split_forced : (sig : Arities) (g rep : List ℕ) (i a b : ℕ) → IsForest sig g → Classes g rep → i < length g → Split sig g rep i (get_or rep i 0) a b → (σ : Subst) → Equates sig g rep σ → (u v : Term) → Stands sig g a u → Stands sig g b v → sub σ u ≡ sub σ v
split_forced sig g rep i a b forest c hi x σ eq u v hu hv =
    let s = stands_at sig g i forest hi in
    let t = stands_at sig g (get_or rep i 0) forest (c.inside i hi) in
    x.forced σ s.0 t.0 u v s.1 t.1 (eq i s.0 t.0 s.1 t.1) hu hv

pub progress_more : (sig : Arities) (g old mid new : List ℕ) (i a b : ℕ) → IsForest sig g → length new ≡ length g → Progress sig g old mid → i < length g → Split sig g mid i (get_or mid i 0) a b → Merged g mid new (get_or mid a 0) (get_or mid b 0) → Progress sig g old new
progress_more sig g old mid new i a b forest len p hi x m =
    let c = p.classes in
    record {
      classes = merged_classes g mid new a b c len x.left_inside x.right_inside x.apart m;
      keeps = λ σ e. merged_equates sig g mid new a b forest c x.left_inside x.right_inside m σ (p.keeps σ e) (split_forced sig g mid i a b forest c hi x σ (p.keeps σ e));
      same = λ j k hj hk e. merged_same g mid new j k (get_or mid a 0) (get_or mid b 0) (let z = c.as_many in omega arith) (let z = c.as_many in omega arith) m (p.same j k hj hk e);
    }

pub progress_fails : (sig : Arities) (g old mid : List ℕ) (i a b : ℕ) → IsForest sig g → Progress sig g old mid → i < length g → Split sig g mid i (get_or mid i 0) a b → Clash g (get_or mid a 0) (get_or mid b 0) → NoSolution sig g old
progress_fails sig g old mid i a b forest p hi x d σ e =
    let c = p.classes in
    clash_differs sig g mid a b forest c x.left_inside x.right_inside d σ (p.keeps σ e) (split_forced sig g mid i a b forest c hi x σ (p.keeps σ e))
