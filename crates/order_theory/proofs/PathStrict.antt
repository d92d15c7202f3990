-- The lexicographic path order is transitive and irreflexive.
-- For s > t > u the induction is on s, then for one s on t, and for one s and t on u: each is by structure, one inside the other.
use Rattle.std.proofs.Common.{◌≡◌, ℕ, ◌+◌, ◌<◌, ◌⊎◌, refl, ap, ◌∙◌, subst, inl, inr, arith}
use mathlib.Core.WellFounded.{Acc}
use Rattle.terms.specs.Term.{var, node, nil, cons, Term, Terms, how_many}
use Rattle.order_theory.specs.Path.{Greater, by_argument, by_rank, by_arguments, SomeAtLeast, is_first, in_first, in_rest, GreaterThanAll, than_none, than_next, FirstGreater, at_first, at_rest}
use Rattle.order_theory.proofs.PathEnds.{Below, well_founded}

same_many : {rank : ℕ → ℕ} {ss ts : Terms} → FirstGreater rank ss ts → how_many ss ≡ how_many ts
same_many (at_first g e) = ap (λ k. 1 + k) e
same_many (at_rest l) = ap (λ k. 1 + k) (same_many l)

module _ (rank : ℕ → ℕ) where
  -- f(ss) against g(ts), by rank or by the arguments
  abbrev Heads : ℕ → Terms → ℕ → Terms → Type 0
  Heads f ss g ts = (rank g < rank f) ⊎ ((f ≡ g) × FirstGreater rank ss ts)

  -- what is known where f(ss) is greater than g(ts)
  view : {f g : ℕ} {ss ts : Terms} → Greater rank (node f ss) (node g ts) → SomeAtLeast rank ss (node g ts) ⊎ (GreaterThanAll rank (node f ss) ts × Heads f ss g ts)
  view (by_argument h) = inl h
  view (by_rank r h) = inr (h, inl r)
  view (by_arguments l h) = inr (h, inr (refl, l))

  build : {f g : ℕ} {ss ts : Terms} → GreaterThanAll rank (node f ss) ts → Heads f ss g ts → Greater rank (node f ss) (node g ts)
  build a (inl r) = by_rank r a
  build {f} {g} {ss} {ts} a (inr p) = subst (λ x. Greater rank (node f ss) (node x ts)) p.0 (by_arguments p.1 a)

  heads_trans : {f g h : ℕ} {ss ts us : Terms} → (FirstGreater rank ss ts → FirstGreater rank ts us → FirstGreater rank ss us) → Heads f ss g ts → Heads g ts h us → Heads f ss h us
  heads_trans lex (inl r) (inl q) = inl (omega arith)
  heads_trans {f} lex (inl r) (inr p) = inl (subst (λ x. rank x < rank f) p.0 r)
  heads_trans {h = h} lex (inr p) (inl q) = let e = ap rank p.0 in inl (omega arith)
  heads_trans lex (inr p) (inr q) = inr (p.0 ∙ q.0, lex p.1 q.1)

  -- for one f(ss), given the two facts below for the members of ss
  module _ (f : ℕ) (ss : Terms)
      (any_tr : (t u : Term) → SomeAtLeast rank ss t → Greater rank t u → SomeAtLeast rank ss u)
      (lex_tr : (ts us : Terms) → FirstGreater rank ss ts → FirstGreater rank ts us → FirstGreater rank ss us) where
    -- for one f(ss) > g(ts), with every ground but `some`, given the fact for the members of ts
    module _ (g : ℕ) (ts : Terms) (above : GreaterThanAll rank (node f ss) ts) (heads : Heads f ss g ts)
        (from_arg : (u : Term) → SomeAtLeast rank ts u → Greater rank (node f ss) u) where
      mutual
        to_term : (u : Term) → Greater rank (node g ts) u → Greater rank (node f ss) u
        to_term (var x) (by_argument h) = from_arg (var x) h
        to_term (node h us) k = elim (view k) [
          | inl a ↦ from_arg (node h us) a
          | inr p ↦ build (to_terms us p.0) (heads_trans (lex_tr ts us) heads p.1)
        ]

        to_terms : (us : Terms) → GreaterThanAll rank (node g ts) us → GreaterThanAll rank (node f ss) us
        to_terms nil than_none = than_none
        to_terms (cons u us) (than_next h hs) = than_next (to_term u h) (to_terms us hs)

    mutual
      through_term : (t u : Term) → Greater rank (node f ss) t → Greater rank t u → Greater rank (node f ss) u
      through_term (var x) u h k = elim k [ ]
      through_term (node g ts) u h k = elim (view h) [
        | inl a ↦ by_argument (any_tr (node g ts) u a k)
        | inr p ↦ to_term g ts p.0 p.1 (λ v b. through_terms ts v p.0 b) u k
      ]

      through_terms : (ts : Terms) (u : Term) → GreaterThanAll rank (node f ss) ts → SomeAtLeast rank ts u → Greater rank (node f ss) u
      through_terms nil u h k = elim k [ ]
      through_terms (cons t ts) u (than_next h hs) is_first = h
      through_terms (cons t ts) u (than_next h hs) (in_first k) = through_term t u h k
      through_terms (cons t ts) u (than_next h hs) (in_rest k) = through_terms ts u hs k

  mutual
    pub greater_trans : (s t u : Term) → Greater rank s t → Greater rank t u → Greater rank s u
    greater_trans (var x) t u h k = elim h [ ]
    greater_trans (node f ss) t u h k = through_term f ss (any_trans ss) (lex_trans ss) t u h k

    any_trans : (ss : Terms) (t u : Term) → SomeAtLeast rank ss t → Greater rank t u → SomeAtLeast rank ss u
    any_trans nil t u h k = elim h [ ]
    any_trans (cons s ss) t u is_first k = in_first k
    any_trans (cons s ss) t u (in_first h) k = in_first (greater_trans s t u h k)
    any_trans (cons s ss) t u (in_rest h) k = in_rest (any_trans ss t u h k)

    lex_trans : (ss ts us : Terms) → FirstGreater rank ss ts → FirstGreater rank ts us → FirstGreater rank ss us
    lex_trans nil ts us l m = elim l [ ]
    lex_trans (cons s ss) ts us (at_first h e) (at_first k d) = at_first (greater_trans s _ _ h k) (e ∙ d)
    lex_trans (cons s ss) ts us (at_first h e) (at_rest m) = at_first h (e ∙ same_many m)
    lex_trans (cons s ss) ts us (at_rest l) (at_first k d) = at_first k (same_many l ∙ d)
    lex_trans (cons s ss) ts us (at_rest l) (at_rest m) = at_rest (lex_trans ss _ _ l m)

  -- a term below itself would be an endless descent
  irreflexive_at : (t : Term) → Acc (Below rank) t → Greater rank t t → ⊥
  irreflexive_at t (Acc.intro s h) g = irreflexive_at s (h s g) g

  pub irreflexive : (t : Term) → Greater rank t t → ⊥
  irreflexive t g = irreflexive_at t (well_founded rank t) g
