-- The tests tell exactly what they are about.
use Rattle.std.proofs.Common.{◌≡◌, ℕ, ◌+◌, Bool, true, false, ◌&&◌, ◌||◌, T, eqb, ltb, leb, ◌⊎◌, List, [], ◌∷◌, length, Some, None, Option, sym, refl, ap, subst, ap₂, inl, inr, arith, le→leb, eqb→eq, ltb→lt, lt→ltb, leb→le}
use lib.Dec.{eqb_refl}
use Rattle.terms.specs.Term.{Kind, one, many, Tree, var, node, nil, cons, Term, Terms, how_many}
use Rattle.terms.specs.Prefix.{Arities, prefix, WellSorted, term_of}
use Rattle.terms.proofs.Reading.{bytes_read_as_their_term, prefix_length, size_pos}
use Rattle.book.specs.Questions.{IsSide}
use Rattle.order_theory.specs.Path.{Greater, by_argument, by_rank, by_arguments, SomeAtLeast, is_first, in_first, in_rest, GreaterThanAll, than_none, than_next, FirstGreater, at_first, at_rest}
use Rattle.order_theory.specs.Grade.{same_bytes, same_term, is_arity, well_sorted, is_side, greater}

-- ── and, or ──

or_inl : (a b : Bool) → T a → T (a || b)
or_inl true b h = tt
or_inl false b h = absurd h

or_inr : (a b : Bool) → T b → T (a || b)
or_inr true b h = tt
or_inr false b h = h

or_cases : (a b : Bool) → T (a || b) → T a ⊎ T b
or_cases true b h = inl tt
or_cases false b h = inr h

pub and_intro : (a b : Bool) → T a → T b → T (a && b)
and_intro true b h k = k
and_intro false b h k = absurd h

pub and_parts : (a b : Bool) → T (a && b) → T a × T b
and_parts true b h = (tt, h)
and_parts false b h = absurd h

-- ── equality ──

bytes_refl : (bs : List ℕ) → T (same_bytes bs bs)
bytes_refl [] = tt
bytes_refl (b ∷ bs) = and_intro (eqb b b) (same_bytes bs bs) (eqb_refl b) (bytes_refl bs)

bytes_same : (bs cs : List ℕ) → T (same_bytes bs cs) → bs ≡ cs
bytes_same [] [] h = refl
bytes_same [] (c ∷ cs) h = absurd h
bytes_same (b ∷ bs) [] h = absurd h
bytes_same (b ∷ bs) (c ∷ cs) h = let p = and_parts (eqb b c) (same_bytes bs cs) h in ap₂ ◌∷◌ (eqb→eq b c p.0) (bytes_same bs cs p.1)

term_refl : {k : Kind} (t : Tree k) → T (same_term t t)
term_refl (var x) = eqb_refl x
term_refl (node f ts) = and_intro (eqb f f) (same_term ts ts) (eqb_refl f) (term_refl ts)
term_refl nil = tt
term_refl (cons t ts) = and_intro (same_term t t) (same_term ts ts) (term_refl t) (term_refl ts)

term_same : {k : Kind} (t u : Tree k) → T (same_term t u) → t ≡ u
term_same (var x) (var y) h = ap var (eqb→eq x y h)
term_same (var x) (node g us) h = absurd h
term_same (node f ts) (var y) h = absurd h
term_same (node f ts) (node g us) h = let p = and_parts (eqb f g) (same_term ts us) h in ap₂ node (eqb→eq f g p.0) (term_same ts us p.1)
term_same nil nil h = refl
term_same nil (cons u us) h = absurd h
term_same (cons t ts) nil h = absurd h
term_same (cons t ts) (cons u us) h = let p = and_parts (same_term t u) (same_term ts us) h in ap₂ cons (term_same t u p.0) (term_same ts us p.1)

-- ── sides ──

arity_is : (o : Option ℕ) (n : ℕ) → T (is_arity o n) → o ≡ Some n
arity_is (Some m) n h = ap {B = Option ℕ} Some (eqb→eq m n h)
arity_is None n h = absurd h

is_the_arity : (o : Option ℕ) (n : ℕ) → o ≡ Some n → T (is_arity o n)
is_the_arity o n e = subst (λ (z : Option ℕ). T (is_arity z n)) (sym e) (eqb_refl n)

module _ (sig : Arities) (vars : ℕ) where
  sorted_sound : {k : Kind} (t : Tree k) → T (well_sorted sig vars t) → WellSorted sig vars t
  sorted_sound (var x) h = let p = and_parts (leb 128 x) (ltb x (128 + vars)) h in (leb→le 128 x p.0, ltb→lt x (128 + vars) p.1)
  sorted_sound (node f ts) h =
      let p = and_parts (ltb f 128) (is_arity (sig f) (how_many ts) && well_sorted sig vars ts) h in
      let q = and_parts (is_arity (sig f) (how_many ts)) (well_sorted sig vars ts) p.1 in
      (ltb→lt f 128 p.0, arity_is (sig f) (how_many ts) q.0, sorted_sound ts q.1)
  sorted_sound nil h = tt
  sorted_sound (cons t ts) h = let p = and_parts (well_sorted sig vars t) (well_sorted sig vars ts) h in (sorted_sound t p.0, sorted_sound ts p.1)

  sorted_complete : {k : Kind} (t : Tree k) → WellSorted sig vars t → T (well_sorted sig vars t)
  sorted_complete (var x) w = and_intro (leb 128 x) (ltb x (128 + vars)) (le→leb 128 x w.0) (lt→ltb x (128 + vars) w.1)
  sorted_complete (node f ts) w =
      and_intro (ltb f 128) (is_arity (sig f) (how_many ts) && well_sorted sig vars ts) (lt→ltb f 128 w.0)
      (and_intro (is_arity (sig f) (how_many ts)) (well_sorted sig vars ts) (is_the_arity (sig f) (how_many ts) w.1) (sorted_complete ts w.2))
  sorted_complete nil w = tt
  sorted_complete (cons t ts) w = and_intro (well_sorted sig vars t) (well_sorted sig vars ts) (sorted_complete t w.0) (sorted_complete ts w.1)

module _ (sig : Arities) (bs : List ℕ) where
  pub side_sound : T (is_side sig bs) → IsSide sig bs
  side_sound h =
      let t = term_of sig bs in
      let p = and_parts (leb (length bs) 32) (well_sorted sig 4 t && same_bytes (prefix t) bs) h in
      let q = and_parts (well_sorted sig 4 t) (same_bytes (prefix t) bs) p.1 in
      let form : prefix t ≡ bs = bytes_same (prefix t) bs q.1 in
      record {
        some = omega (arith, size_pos t, prefix_length t, ap length form);
        most = leb→le (length bs) 32 p.0;
        term = (t, record { sorted = sorted_sound sig 4 t q.0; form = form });
      }

  pub side_complete : IsSide sig bs → T (is_side sig bs)
  side_complete s =
      let t = s.term.0 in
      let r = s.term.1 in
      let is : t ≡ term_of sig bs = sym (bytes_read_as_their_term sig 4 bs t r) in
      and_intro (leb (length bs) 32) (well_sorted sig 4 (term_of sig bs) && same_bytes (prefix (term_of sig bs)) bs) (le→leb (length bs) 32 s.most)
      (and_intro (well_sorted sig 4 (term_of sig bs)) (same_bytes (prefix (term_of sig bs)) bs)
      (subst (λ u. T (well_sorted sig 4 u)) is (sorted_complete sig 4 t r.sorted))
      (subst (λ u. T (same_bytes (prefix u) bs)) is (subst (λ w. T (same_bytes (prefix t) w)) r.form (bytes_refl (prefix t)))))

-- ── the path order ──

module _ (r : ℕ → ℕ) where
  -- what the test is about, by the kinds
  abbrev Means : (j k : Kind) → Tree j → Tree k → Type 0
  Means one one s t = Greater r s t
  Means one many s ts = GreaterThanAll r s ts
  Means many one ss t = SomeAtLeast r ss t
  Means many many ss ts = FirstGreater r ss ts

  member : (s t : Term) (ss : Terms) → T (same_term s t || (greater r s t || greater r ss t)) → (T (greater r s t) → Greater r s t) → (T (greater r ss t) → SomeAtLeast r ss t) → SomeAtLeast r (cons s ss) t
  member s t ss h first rest = elim (or_cases (same_term s t) _ h) [
    | inl e ↦ subst (λ (u : Term). SomeAtLeast r (cons s ss) u) (term_same s t e) is_first
    | inr k ↦ elim (or_cases (greater r s t) _ k) [ inl g ↦ in_first (first g) | inr a ↦ in_rest (rest a) ]
  ]

  pub greater_sound : {j k : Kind} (s : Tree j) (t : Tree k) → T (greater r s t) → Means j k s t
  greater_sound (var x) (var y) h = absurd h
  greater_sound (var x) (node g ts) h = absurd h
  greater_sound (var x) nil h = than_none
  greater_sound (var x) (cons t ts) h = let p = and_parts (greater r (var x) t) _ h in than_next (greater_sound (var x) t p.0) (greater_sound (var x) ts p.1)
  greater_sound (node f ss) (var y) h = by_argument (greater_sound ss (var y) h)
  greater_sound (node f ss) (node g ts) h = elim (or_cases (greater r ss (node g ts)) _ h) [
    | inl k ↦ by_argument (greater_sound ss (node g ts) k)
    | inr k ↦
        let p = and_parts (greater r (node f ss) ts) (ltb (r g) (r f) || (eqb f g && greater r ss ts)) k in
        elim (or_cases (ltb (r g) (r f)) (eqb f g && greater r ss ts) p.1) [
          | inl q ↦ by_rank (ltb→lt (r g) (r f) q) (greater_sound (node f ss) ts p.0)
          | inr d ↦
              let q = and_parts (eqb f g) (greater r ss ts) d in
              subst (λ (x : ℕ). Greater r (node f ss) (node x ts)) (eqb→eq f g q.0) (by_arguments (greater_sound ss ts q.1) (greater_sound (node f ss) ts p.0))
        ]
  ]
  greater_sound (node f ss) nil h = than_none
  greater_sound (node f ss) (cons t ts) h = let p = and_parts (greater r (node f ss) t) _ h in than_next (greater_sound (node f ss) t p.0) (greater_sound (node f ss) ts p.1)
  greater_sound nil (var y) h = absurd h
  greater_sound nil (node g ts) h = absurd h
  greater_sound nil nil h = absurd h
  greater_sound nil (cons t ts) h = absurd h
  greater_sound (cons s ss) (var y) h = member s (var y) ss h (greater_sound s (var y)) (greater_sound ss (var y))
  greater_sound (cons s ss) (node g ts) h = member s (node g ts) ss h (greater_sound s (node g ts)) (greater_sound ss (node g ts))
  greater_sound (cons s ss) nil h = absurd h
  greater_sound (cons s ss) (cons t ts) h = elim (or_cases (greater r s t && eqb (how_many ss) (how_many ts)) _ h) [
    | inl k ↦ let p = and_parts (greater r s t) _ k in at_first (greater_sound s t p.0) (eqb→eq (how_many ss) (how_many ts) p.1)
    | inr k ↦ let p = and_parts (same_term s t) _ k in subst (λ (u : Term). FirstGreater r (cons s ss) (cons u ts)) (term_same s t p.0) (at_rest (greater_sound ss ts p.1))
  ]

  any_at : (s t : Term) (ss : Terms) → T (same_term s t || (greater r s t || greater r ss t)) → T (greater r (cons s ss) t)
  any_at s (var y) ss h = h
  any_at s (node g ts) ss h = h

  some_at : (f : ℕ) (ss : Terms) (t : Term) → T (greater r ss t) → T (greater r (node f ss) t)
  some_at f ss (var y) h = h
  some_at f ss (node g ts) h = or_inl (greater r ss (node g ts)) _ h

  none_at : (s : Term) → T (greater r s nil)
  none_at (var x) = tt
  none_at (node f ss) = tt

  all_at : (s t : Term) (ts : Terms) → T (greater r s t && greater r s ts) → T (greater r s (cons t ts))
  all_at (var x) t ts h = h
  all_at (node f ss) t ts h = h

  mutual
    pub greater_complete : {s t : Term} → Greater r s t → T (greater r s t)
    greater_complete (by_argument {f = f} {ss = ss} {t = t} h) = some_at f ss t (some_complete h)
    greater_complete (by_rank {f = f} {g = g} {ss = ss} {ts = ts} q h) =
        or_inr (greater r ss (node g ts)) _ (and_intro (greater r (node f ss) ts) _ (all_complete h) (or_inl (ltb (r g) (r f)) _ (lt→ltb (r g) (r f) q)))
    greater_complete (by_arguments {f = f} {ss = ss} {ts = ts} l h) =
        or_inr (greater r ss (node f ts)) _ (and_intro (greater r (node f ss) ts) _ (all_complete h) (or_inr (ltb (r f) (r f)) _ (and_intro (eqb f f) _ (eqb_refl f) (first_complete l))))

    some_complete : {ss : Terms} {t : Term} → SomeAtLeast r ss t → T (greater r ss t)
    some_complete (is_first {t = s} {ts = ss}) = any_at s s ss (or_inl (same_term s s) _ (term_refl s))
    some_complete (in_first {s = s} {t = t} {ss = ss} h) = any_at s t ss (or_inr (same_term s t) _ (or_inl (greater r s t) _ (greater_complete h)))
    some_complete (in_rest {s = s} {t = t} {ss = ss} h) = any_at s t ss (or_inr (same_term s t) _ (or_inr (greater r s t) _ (some_complete h)))

    all_complete : {s : Term} {ts : Terms} → GreaterThanAll r s ts → T (greater r s ts)
    all_complete (than_none {s = s}) = none_at s
    all_complete (than_next {s = s} {t = t} {ts = ts} h hs) = all_at s t ts (and_intro (greater r s t) _ (greater_complete h) (all_complete hs))

    first_complete : {ss ts : Terms} → FirstGreater r ss ts → T (greater r ss ts)
    first_complete (at_first {s = s} {t = t} {ss = ss} {ts = ts} h e) =
        or_inl (greater r s t && eqb (how_many ss) (how_many ts)) _ (and_intro (greater r s t) _ (greater_complete h) (subst (λ (n : ℕ). T (eqb (how_many ss) n)) e (eqb_refl (how_many ss))))
    first_complete (at_rest {s = s} {ss = ss} {ts = ts} l) =
        or_inr (greater r s s && eqb (how_many ss) (how_many ts)) _ (and_intro (same_term s s) _ (term_refl s) (first_complete l))
