-- How the path order is decided without trying everything: which argument decides, by the heads and the first difference.
use Rattle.std.proofs.Common.{◌≡◌, ℕ, ◌<◌, sym, refl, ap, ◌∙◌, subst, subst₂, arith}
use Rattle.terms.specs.Term.{var, node, nil, cons, Term, Terms, how_many}
use Rattle.order_theory.specs.Path.{Greater, by_argument, by_rank, by_arguments, SomeAtLeast, is_first, in_first, in_rest, GreaterThanAll, than_none, than_next, FirstGreater, at_first, at_rest, Common, from_the_start, one_more}
use Rattle.order_theory.proofs.PathStrict.{greater_trans, irreflexive}

clash : ◌≡◌ {A = ℕ} 0 1 → ⊥
clash z = omega arith

module _ (rank : ℕ → ℕ) where
  -- what is among the arguments is below the term
  argument_below : (f : ℕ) (ss : Terms) (u : Term) → SomeAtLeast rank ss u → Greater rank (node f ss) u
  argument_below f ss u a = by_argument a

  some_trans : (ss : Terms) (t u : Term) → SomeAtLeast rank ss t → Greater rank t u → SomeAtLeast rank ss u
  some_trans (cons s ss) t u is_first k = in_first k
  some_trans (cons s ss) t u (in_first h) k = in_first (greater_trans rank s t u h k)
  some_trans (cons s ss) t u (in_rest h) k = in_rest (some_trans ss t u h k)
  some_trans nil t u h k = elim h [ ]

  -- all arguments of a term that is below s are below s
  each_below : (s : Term) (g : ℕ) (us ts : Terms) → Greater rank s (node g us) → ((u : Term) → SomeAtLeast rank ts u → SomeAtLeast rank us u) → GreaterThanAll rank s ts
  each_below s g us nil h inside = than_none
  each_below s g us (cons t ts) h inside = than_next (greater_trans rank s (node g us) t h (by_argument (inside t is_first))) (each_below s g us ts h (λ u a. inside u (in_rest a)))

  pub below_all : (s : Term) (g : ℕ) (ts : Terms) → Greater rank s (node g ts) → GreaterThanAll rank s ts
  below_all s g ts h = each_below s g ts ts h (λ u a. a)

  -- ── no variable is greater ──

  pub variable_not : (x : ℕ) (t : Term) → Greater rank (var x) t → ⊥
  variable_not x t h = elim h [ ]

  -- ── a higher head ──

  pub higher_decides : (f g : ℕ) (ss ts : Terms) → rank g < rank f → GreaterThanAll rank (node f ss) ts → Greater rank (node f ss) (node g ts)
  higher_decides f g ss ts r a = by_rank r a

  -- ── neither higher nor the same ──

  pub other_head : (f : ℕ) (ss : Terms) (t : Term) → ((g : ℕ) (ts : Terms) → t ≡ node g ts → (rank g < rank f → ⊥) × (f ≡ g → ⊥)) → Greater rank (node f ss) t → SomeAtLeast rank ss t
  other_head f ss t n h = go (node f ss) t h refl refl
    where
      go : (s u : Term) → Greater rank s u → s ≡ node f ss → u ≡ t → SomeAtLeast rank ss t
      go s u (by_argument {ss = vs} a) e d = let q : vs ≡ ss = cc in subst₂ (SomeAtLeast rank) q d a
      go s u (by_rank {f = a} {g = g} {ts = ts} r b) e d = let q : a ≡ f = cc in absurd ((n g ts (sym d)).0 (subst (λ z. rank g < rank z) q r))
      go s u (by_arguments {f = a} {ts = ts} l b) e d = let q : f ≡ a = cc in absurd ((n a ts (sym d)).1 q)

  -- ── the same head ──

  -- what comes later is among all
  later_left : {us vs ss ts : Terms} → Common us vs ss ts → (t : Term) → SomeAtLeast rank ss t → SomeAtLeast rank us t
  later_left from_the_start t a = a
  later_left (one_more c) t a = later_left c t (in_rest a)

  later_right : {us vs ss ts : Terms} → Common us vs ss ts → (t : Term) → SomeAtLeast rank ts t → SomeAtLeast rank vs t
  later_right from_the_start t a = a
  later_right (one_more c) t a = later_right c t (in_rest a)

  later_first : {us vs ss ts : Terms} → Common us vs ss ts → FirstGreater rank ss ts → FirstGreater rank us vs
  later_first from_the_start l = l
  later_first (one_more c) l = later_first c (at_rest l)

  pub common_many : {us vs ss ts : Terms} → Common us vs ss ts → how_many us ≡ how_many vs → how_many ss ≡ how_many ts
  common_many from_the_start e = e
  common_many (one_more c) e = let h = common_many c e in omega arith

  pub common_same : {us vs ss ts : Terms} → Common us vs ss ts → ss ≡ ts → us ≡ vs
  common_same from_the_start e = e
  common_same (one_more {u = u} c) e = common_same c (ap (cons u) e)

  -- s is above the common arguments, and so above all once it is above the rest
  later_all : {us vs ss ts : Terms} (f : ℕ) → Common us vs ss ts → GreaterThanAll rank (node f us) ts → GreaterThanAll rank (node f us) vs
  later_all f from_the_start a = a
  later_all f (one_more {u = u} c) a = later_all f c (than_next (by_argument (later_left c u is_first)) a)

  pub greater_there : {us vs ss ts : Terms} (f : ℕ) (a b : Term) → Common us vs (cons a ss) (cons b ts) → how_many ss ≡ how_many ts → Greater rank a b → GreaterThanAll rank (node f us) ts → Greater rank (node f us) (node f vs)
  greater_there {us} {vs} f a b c n g all =
      by_arguments (later_first c (at_first g n))
      (later_all f c (than_next (greater_trans rank (node f us) a b (by_argument (later_left c a is_first)) g) all))

  rest_all : (s t : Term) (ts : Terms) → GreaterThanAll rank s (cons t ts) → GreaterThanAll rank s ts
  rest_all s t ts (than_next g a) = a

  -- the rest of the arguments are below s
  pub later_below : {us vs ss ts : Terms} (f : ℕ) → Common us vs ss ts → Greater rank (node f us) (node f vs) → GreaterThanAll rank (node f us) ts
  later_below {us} {vs} f from_the_start h = below_all (node f us) f vs h
  later_below {us} {vs} {ss} {ts} f (one_more {u = u} c) h = rest_all (node f us) u ts (later_below f c h)

  -- where the first differing argument is not greater, only a later argument can be t or greater
  module _ (f : ℕ) (us vs : Terms) (a b : Term) (ss ts : Terms) (c : Common us vs (cons a ss) (cons b ts)) (differ : a ≡ b → ⊥) (less : Greater rank a b → ⊥) where
    t : Term
    t = node f vs

    -- t is above each of its arguments
    above_own : (u : Term) → SomeAtLeast rank vs u → Greater rank (node f vs) u
    above_own u h = by_argument h

    from_here : SomeAtLeast rank (cons a ss) (node f vs) → SomeAtLeast rank ss (node f vs)
    from_here h = go (cons a ss) (node f vs) h refl refl
      where
        go : (ws : Terms) (w : Term) → SomeAtLeast rank ws w → ws ≡ cons a ss → w ≡ node f vs → SomeAtLeast rank ss (node f vs)
        go ws w (is_first {t = v}) e d =
            let q : a ≡ v = cc in
            let p : a ≡ node f vs = q ∙ d in
            absurd (less (subst (λ z. Greater rank z b) (sym p) (above_own b (later_right c b is_first))))
        go ws w (in_first {s = v} g) e d =
            let q : v ≡ a = cc in
            absurd (less (greater_trans rank a (node f vs) b (subst₂ (Greater rank) q d g) (above_own b (later_right c b is_first))))
        go ws w (in_rest {ss = rest} r) e d = let q : rest ≡ ss = cc in subst₂ (SomeAtLeast rank) q d r

    skip : {ls ms : Terms} → Common us vs ls ms → (SomeAtLeast rank ls (node f vs) → SomeAtLeast rank ss (node f vs)) → SomeAtLeast rank us (node f vs) → SomeAtLeast rank ss (node f vs)
    skip from_the_start k h = k h
    skip {ls} {ms} (one_more {u = u} d) k h = skip d through h
      where
        through : SomeAtLeast rank (cons u ls) (node f vs) → SomeAtLeast rank ss (node f vs)
        through g = go (cons u ls) (node f vs) g refl refl
          where
            own : Greater rank (node f vs) u
            own = above_own u (later_right d u is_first)

            go : (ws : Terms) (w : Term) → SomeAtLeast rank ws w → ws ≡ cons u ls → w ≡ node f vs → SomeAtLeast rank ss (node f vs)
            go ws w (is_first {t = v}) e q =
                let p : u ≡ v = cc in
                absurd (irreflexive rank u (subst (λ z. Greater rank z u) (sym (p ∙ q)) own))
            go ws w (in_first {s = v} r) e q =
                let p : v ≡ u = cc in
                absurd (irreflexive rank (node f vs) (greater_trans rank (node f vs) u (node f vs) own (subst₂ (Greater rank) p q r)))
            go ws w (in_rest {ss = rest} r) e q = let p : rest ≡ ls = cc in k (subst₂ (SomeAtLeast rank) p q r)

    no_first : {ls ms : Terms} → Common us vs ls ms → (FirstGreater rank ls ms → ⊥) → FirstGreater rank us vs → ⊥
    no_first from_the_start k h = k h
    no_first {ls} {ms} (one_more {u = u} d) k h = no_first d through h
      where
        through : FirstGreater rank (cons u ls) (cons u ms) → ⊥
        through g = go (cons u ls) (cons u ms) g refl refl
          where
            go : (xs ys : Terms) → FirstGreater rank xs ys → xs ≡ cons u ls → ys ≡ cons u ms → ⊥
            go xs ys (at_first {s = v} {t = w} r n) e q = let p : v ≡ u = cc in let m : w ≡ u = cc in irreflexive rank u (subst₂ (Greater rank) p m r)
            go xs ys (at_rest {ss = vs'} {ts = ws} r) e q = let p : vs' ≡ ls = cc in let m : ws ≡ ms = cc in k (subst₂ (FirstGreater rank) p m r)

    no_first_here : FirstGreater rank (cons a ss) (cons b ts) → ⊥
    no_first_here g = go (cons a ss) (cons b ts) g refl refl
      where
        go : (xs ys : Terms) → FirstGreater rank xs ys → xs ≡ cons a ss → ys ≡ cons b ts → ⊥
        go xs ys (at_first {s = v} {t = w} r n) e q = let p : v ≡ a = cc in let m : w ≡ b = cc in less (subst₂ (Greater rank) p m r)
        go xs ys (at_rest {s = v} r) e q = differ (cc)

    pub only_later : Greater rank (node f us) (node f vs) → SomeAtLeast rank ss (node f vs)
    only_later h = go (node f us) (node f vs) h refl refl
      where
        go : (s w : Term) → Greater rank s w → s ≡ node f us → w ≡ node f vs → SomeAtLeast rank ss (node f vs)
        go s w (by_argument {ss = xs} x) e d = let p : xs ≡ us = cc in skip c from_here (subst₂ (SomeAtLeast rank) p d x)
        go s w (by_rank {f = k} {g = g} r x) e d = let p : k ≡ f = cc in let q : g ≡ f = cc in let z = ap rank p in let y = ap rank q in absurd (omega arith)
        go s w (by_arguments {ss = xs} {ts = ys} l x) e d = let p : xs ≡ us = cc in let q : ys ≡ vs = cc in absurd (no_first c no_first_here (subst₂ (FirstGreater rank) p q l))

    pub later_suffices : SomeAtLeast rank ss (node f vs) → Greater rank (node f us) (node f vs)
    later_suffices h = by_argument (later_left c (node f vs) (in_rest h))
