-- The lexicographic path order is well-founded, and closed under substitutions and contexts.
use Rattle.std.proofs.Common.{◌≡◌, ℕ, zero, suc, ◌+◌, ◌<◌, sym, refl, ap, ◌∙◌, subst, arith}
use mathlib.Core.WellFounded.Acc
use mathlib.Core.WellFounded.{Acc}
use Rattle.terms.specs.Term.{Kind, one, many, Tree, var, node, nil, cons, Term, Terms, Subst, sub, IsNode, how_many}
use Rattle.terms.specs.Place.{Context, hole, under, head, tail, plug}
use Rattle.order_theory.specs.Path.{Greater, by_argument, by_rank, by_arguments, SomeAtLeast, is_first, in_first, in_rest, GreaterThanAll, than_none, than_next, FirstGreater, at_first, at_rest}

clash : ◌≡◌ {A = ℕ} 0 1 → ⊥
clash z = omega arith

module _ (rank : ℕ → ℕ) where
  -- ── well-founded ──

  abbrev pub Below : Term → Term → Type 0
  Below t s = Greater rank s t

  -- all the terms are accessible
  abbrev AllAcc : Terms → Type 0
  AllAcc nil = Unit {0}
  AllAcc (cons t ts) = Acc Below t × AllAcc ts

  abbrev BelowLex : Terms → Terms → Type 0
  BelowLex ts ss = FirstGreater rank ss ts × AllAcc ts

  lex_nil : {ss ts : Terms} → FirstGreater rank ss ts → ss ≡ nil → ⊥
  lex_nil (at_first g n) e = clash (cc)
  lex_nil (at_rest l) e = clash (cc)

  -- lists of m + 1 accessible terms, if those of m are accessible: by induction on the first term, and then on the rest
  module _ (m : ℕ) where
    tails : (s : Term) → ((t : Term) → Greater rank s t → (ts : Terms) → how_many ts ≡ m → AllAcc ts → Acc BelowLex (cons t ts)) → {ss : Terms} → Acc BelowLex ss → how_many ss ≡ m → Acc BelowLex (cons s ss)
    tails s smaller (Acc.intro ss h) n = Acc.intro (cons s ss) (λ vs p. below vs p.0 p.1 (λ ts q k. tails s smaller (h ts q) k))
      where
        same_many : {us vs : Terms} → FirstGreater rank us vs → how_many us ≡ how_many vs
        same_many (at_first g e) = ap (λ k. 1 + k) e
        same_many (at_rest l) = ap (λ k. 1 + k) (same_many l)

        below : (vs : Terms) → FirstGreater rank (cons s ss) vs → AllAcc vs → ((ts : Terms) → BelowLex ts ss → how_many ts ≡ m → Acc BelowLex (cons s ts)) → Acc BelowLex vs
        below vs (at_first {t = t} {ts = ts} g e) a again = smaller t g ts (sym e ∙ n) a.1
        below vs (at_rest {ts = ts} l) a again = again ts (l, a.1) (sym (same_many l) ∙ n)

    heads : ((ss : Terms) → how_many ss ≡ m → AllAcc ss → Acc BelowLex ss) → {s : Term} → Acc Below s → (ss : Terms) → how_many ss ≡ m → AllAcc ss → Acc BelowLex (cons s ss)
    heads lists (Acc.intro s h) ss n a = tails s (λ t g ts k b. heads lists (h t g) ts k b) (lists ss n a) n

  lists : (m : ℕ) (ss : Terms) → how_many ss ≡ m → AllAcc ss → Acc BelowLex ss
  lists zero nil n a = Acc.intro nil (λ ts p. absurd (lex_nil p.0 refl))
  lists zero (cons s ss) n a = absurd (omega arith)
  lists (suc m) nil n a = absurd (omega arith)
  lists (suc m) (cons s ss) n a = heads m (lists m) a.0 ss (omega arith) a.1

  from_some : {ss : Terms} {t : Term} → SomeAtLeast rank ss t → AllAcc ss → Acc Below t
  from_some is_first a = a.0
  from_some (in_first g) a = Acc.inv a.0 g
  from_some (in_rest s) a = from_some s a.1

  -- what is below the term f(ss): its parts are accessible, and so is each term that is smaller by rank or by arguments
  module _ (f : ℕ) (ss : Terms) (a : AllAcc ss)
      (by_lower : (g : ℕ) → rank g < rank f → (ts : Terms) → AllAcc ts → Acc Below (node g ts))
      (by_lex : (ts : Terms) → BelowLex ts ss → Acc Below (node f ts)) where
    mutual
      below_node : {s t : Term} → Greater rank s t → s ≡ node f ss → Acc Below t
      below_node (by_argument {ss = us} p) e = let q : ss ≡ us = cc in from_some p (subst AllAcc q a)
      below_node (by_rank {f = h} {g = g} {ts = ts} r all) e =
          let q : h ≡ f = cc in
          by_lower g (subst (λ z. rank g < rank z) q r) ts (below_all all e)
      below_node (by_arguments {f = h} {ss = us} {ts = ts} l all) e =
          let q : f ≡ h = cc in
          let p : us ≡ ss = cc in
          subst (λ z. Acc Below (node z ts)) q (by_lex ts (subst (λ z. FirstGreater rank z ts) p l, below_all all e))

      below_all : {s : Term} {ts : Terms} → GreaterThanAll rank s ts → s ≡ node f ss → AllAcc ts
      below_all than_none e = tt
      below_all (than_next g all) e = (below_node g e, below_all all e)

  by_lists : (f : ℕ) → ((g : ℕ) → rank g < rank f → (ts : Terms) → AllAcc ts → Acc Below (node g ts)) → {ss : Terms} → Acc BelowLex ss → AllAcc ss → Acc Below (node f ss)
  by_lists f lower (Acc.intro ss h) a =
      Acc.intro (node f ss) (λ t g. below_node f ss a lower (λ ts p. by_lists f lower (h ts p) p.1) g refl)

  nodes : (n f : ℕ) → rank f < n → (ss : Terms) → AllAcc ss → Acc Below (node f ss)
  nodes zero f h ss a = absurd (omega arith)
  nodes (suc n) f h ss a = by_lists f (λ g l ts b. nodes n g (omega arith) ts b) (lists (how_many ss) ss refl a) a

  greater_node : {s t : Term} → Greater rank s t → IsNode s
  greater_node (by_argument p) = tt
  greater_node (by_rank r all) = tt
  greater_node (by_arguments l all) = tt

  abbrev Accessible : {k : Kind} → Tree k → Type 0
  Accessible (var x) = Acc Below (var x)
  Accessible (node f ts) = Acc Below (node f ts)
  Accessible nil = Unit {0}
  Accessible (cons t ts) = Acc Below t × AllAcc ts

  every : {k : Kind} (t : Tree k) → Accessible t
  every (var x) = Acc.intro (var x) (λ t g. absurd (greater_node g))
  every (node f ts) = nodes (suc (rank f)) f (omega arith) ts (all ts (every ts))
    where
      all : (ts : Terms) → Accessible ts → AllAcc ts
      all nil a = tt
      all (cons t ts) a = a
  every (cons t ts) = (term t (every t), all ts (every ts))
    where
      term : (t : Term) → Accessible t → Acc Below t
      term (var x) a = a
      term (node f ts) a = a

      all : (ts : Terms) → Accessible ts → AllAcc ts
      all nil a = tt
      all (cons t ts) a = a
  every nil = tt

  -- the path order is well-founded
  pub well_founded : (t : Term) → Acc Below t
  well_founded (var x) = every (var x)
  well_founded (node f ts) = every (node f ts)

  -- ── closed under substitutions ──

  many_sub : (σ : Subst) (ts : Terms) → how_many (sub σ ts) ≡ how_many ts
  many_sub σ nil = refl
  many_sub σ (cons t ts) = ap (λ n. 1 + n) (many_sub σ ts)

  mutual
    pub greater_sub : (σ : Subst) {s t : Term} → Greater rank s t → Greater rank (sub σ s) (sub σ t)
    greater_sub σ (by_argument p) = by_argument (some_sub σ p)
    greater_sub σ (by_rank r all) = by_rank r (all_sub σ all)
    greater_sub σ (by_arguments l all) = by_arguments (lex_sub σ l) (all_sub σ all)

    some_sub : (σ : Subst) {ss : Terms} {t : Term} → SomeAtLeast rank ss t → SomeAtLeast rank (sub σ ss) (sub σ t)
    some_sub σ is_first = is_first
    some_sub σ (in_first g) = in_first (greater_sub σ g)
    some_sub σ (in_rest p) = in_rest (some_sub σ p)

    all_sub : (σ : Subst) {s : Term} {ts : Terms} → GreaterThanAll rank s ts → GreaterThanAll rank (sub σ s) (sub σ ts)
    all_sub σ than_none = than_none
    all_sub σ (than_next g all) = than_next (greater_sub σ g) (all_sub σ all)

    lex_sub : (σ : Subst) {ss ts : Terms} → FirstGreater rank ss ts → FirstGreater rank (sub σ ss) (sub σ ts)
    lex_sub σ (at_first {ss = ss} {ts = ts} g n) = at_first (greater_sub σ g) (many_sub σ ss ∙ n ∙ sym (many_sub σ ts))
    lex_sub σ (at_rest l) = at_rest (lex_sub σ l)

  -- ── closed under contexts ──

  -- each of the terms ts is one of us, or below one of them
  abbrev Cover : Terms → Terms → Type 0
  Cover us nil = Unit {0}
  Cover us (cons t ts) = SomeAtLeast rank us t × Cover us ts

  cover_all : (f : ℕ) (us ts : Terms) → Cover us ts → GreaterThanAll rank (node f us) ts
  cover_all f us nil c = than_none
  cover_all f us (cons t ts) c = than_next (by_argument c.0) (cover_all f us ts c.1)

  cover_part : (ts us : Terms) → ((v : Term) → SomeAtLeast rank ts v → SomeAtLeast rank us v) → Cover us ts
  cover_part nil us w = tt
  cover_part (cons t ts) us w = (w t is_first, cover_part ts us (λ v p. w v (in_rest p)))

  -- what s above t gives around them: of terms that one is above the other; of arguments that those on the left come before
  -- those on the right, and cover them
  abbrev pub Larger : (k : Kind) → Tree k → Tree k → Type 0
  Larger one s t = Greater rank s t
  Larger many ss ts = FirstGreater rank ss ts × ((us : Terms) → ((v : Term) → SomeAtLeast rank ss v → SomeAtLeast rank us v) → Cover us ts)

  pub larger_plug : {k : Kind} (C : Context k) (s t : Term) → Greater rank s t → Larger k (plug C s) (plug C t)
  larger_plug hole s t g = g
  larger_plug (under f C) s t g =
      let r = larger_plug C s t g in
      by_arguments r.0 (cover_all f (plug C s) (plug C t) (r.1 (plug C s) (λ v p. p)))
  larger_plug (head C ts) s t g =
      let r = larger_plug C s t g in
      (at_first r refl, λ us w. (w (plug C t) (in_first r), cover_part ts us (λ v p. w v (in_rest p))))
  larger_plug (tail u C) s t g =
      let r = larger_plug C s t g in
      (at_rest r.0, λ us w. (w u is_first, r.1 us (λ v p. w v (in_rest p))))
