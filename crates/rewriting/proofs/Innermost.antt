-- Innermost steps: one is there unless the term is a normal form, there is only one, and enough of them lead to a normal form.
use Rattle.std.proofs.Common.{◌≡◌, ℕ, zero, suc, ◌+◌, ◌<◌, ◌⊎◌, List, length, sym, refl, ap, ◌∙◌, subst, ap₂, inl, inr, arith}
use mathlib.Core.WellFounded.{Acc}
use native.Mathlib.Decide.{dec_lt}
use Rattle.terms.specs.Term.{Term, Rule, rule_at, Subst, sub, size}
use Rattle.terms.specs.Place.{plug, place, part}
use Rattle.terms.proofs.Places.{part_at, place_below, place_unique, parts_agree_with_contexts}
use Rattle.rewriting.specs.Relation.{Normal}
use Rattle.rewriting.specs.Rewrite.{Matches, Step, StepAt, Proper, MatchedAt, InnermostAt, InnermostStep, InnermostSteps, none, more}
use Rattle.rewriting.proofs.Substitution.{sub_cong, sub_agree}
use Rattle.rewriting.proofs.Matching.{matching}

abbrev Decided : Type 0 → Type 0
Decided P = P ⊎ (P → ⊥)

-- ── searching through numbers ──

-- the least number below n of which P holds, or none
pub record Least (P : ℕ → Type 0) (n : ℕ) : Type 0 where
  pub at : ℕ
  pub below : at < n
  pub holds : P at
  pub first : (q : ℕ) → q < at → P q → ⊥

pub least : (P : ℕ → Type 0) (n : ℕ) → ((p : ℕ) → p < n → Decided (P p)) → Least P n ⊎ ((p : ℕ) → p < n → P p → ⊥)
least P zero d = inr (λ p h x. omega arith)
least P (suc n) d = go (least P n (λ p h. d p (omega arith))) (d n (omega arith))
  where
    none_yet : ((p : ℕ) → p < n → P p → ⊥) → (P n → ⊥) → (p : ℕ) → p < suc n → Dec (p < n) → P p → ⊥
    none_yet a b p h (yes l) x = a p l x
    none_yet a b p h (no m) x = b (subst P (omega arith) x)

    go : Least P n ⊎ ((p : ℕ) → p < n → P p → ⊥) → Decided (P n) → Least P (suc n) ⊎ ((p : ℕ) → p < suc n → P p → ⊥)
    go (inl l) d = inl (record { at = l.at; below = (let h = l.below in omega arith); holds = l.holds; first = l.first })
    go (inr a) (inl x) = inl (record { at = n; below = omega arith; holds = x; first = a })
    go (inr a) (inr b) = inr (λ p h x. none_yet a b p h (dec_lt p n) x)

-- the greatest
pub record Greatest (P : ℕ → Type 0) (n : ℕ) : Type 0 where
  pub at : ℕ
  pub holds : P at
  pub last : (q : ℕ) → at < q → q < n → P q → ⊥

greatest : (P : ℕ → Type 0) (n : ℕ) → ((p : ℕ) → p < n → Decided (P p)) → Greatest P n ⊎ ((p : ℕ) → p < n → P p → ⊥)
greatest P zero d = inr (λ p h x. omega arith)
greatest P (suc n) d = go (d n (omega arith)) (greatest P n (λ p h. d p (omega arith)))
  where
    behind : (P n → ⊥) → (g : Greatest P n) → (q : ℕ) → g.at < q → q < suc n → Dec (q < n) → P q → ⊥
    behind b g q l h (yes m) x = g.last q l m x
    behind b g q l h (no m) x = b (subst P (omega arith) x)

    none_yet : ((p : ℕ) → p < n → P p → ⊥) → (P n → ⊥) → (p : ℕ) → p < suc n → Dec (p < n) → P p → ⊥
    none_yet a b p h (yes l) x = a p l x
    none_yet a b p h (no m) x = b (subst P (omega arith) x)

    go : Decided (P n) → Greatest P n ⊎ ((p : ℕ) → p < n → P p → ⊥) → Greatest P (suc n) ⊎ ((p : ℕ) → p < suc n → P p → ⊥)
    go (inl x) r = inl (record { at = n; holds = x; last = λ q l h y. omega arith })
    go (inr b) (inl g) = inl (record { at = g.at; holds = g.holds; last = λ q l h x. behind b g q l h (dec_lt q n) x })
    go (inr b) (inr a) = inr (λ p h x. none_yet a b p h (dec_lt p n) x)

module _ (rs : List Rule) where
  -- ── what matches ──

  matches? : (k : ℕ) → k < length rs → (t : Term) → Decided (Matches rs k t)
  matches? k h t = go (matching (rule_at rs k).left t)
    where
      go : ((σ : Subst) × (sub σ (rule_at rs k).left ≡ t)) ⊎ ((σ : Subst) → ¬ (sub σ (rule_at rs k).left ≡ t)) → Decided (Matches rs k t)
      go (inl m) = inl (record { is_rule = h; instance = m.0; is = sym m.1 })
      go (inr n) = inr (λ m. n m.instance (sym m.is))

  lowest_rule : (t : Term) → Least (λ k. Matches rs k t) (length rs) ⊎ ((k : ℕ) → k < length rs → Matches rs k t → ⊥)
  lowest_rule t = least (λ k. Matches rs k t) (length rs) (λ k h. matches? k h t)

  matched? : (t : Term) (p : ℕ) → p < size t → Decided (MatchedAt rs t p)
  matched? t p h = go (lowest_rule (part t p))
    where
      go : Least (λ k. Matches rs k (part t p)) (length rs) ⊎ ((k : ℕ) → k < length rs → Matches rs k (part t p) → ⊥) → Decided (MatchedAt rs t p)
      go (inl l) = inl (record { inside = h; rule = l.at; matches = l.holds })
      go (inr n) = inr (λ m. n m.rule m.matches.is_rule m.matches)

  matched_anywhere? : (t : Term) (p : ℕ) → Decided (MatchedAt rs t p)
  matched_anywhere? t p = go (dec_lt p (size t))
    where
      go : Dec (p < size t) → Decided (MatchedAt rs t p)
      go (yes h) = matched? t p h
      go (no n) = inr (λ m. n m.inside)

  -- is the place innermost?
  innermost? : (t : Term) (p : ℕ) → p < size t → Decided (InnermostAt rs t p)
  innermost? t p h = go (matched? t p h) (least (λ q. (p < q) × MatchedAt rs t q) (p + size (part t p)) (λ q l. both? q (dec_lt p q) (matched_anywhere? t q)))
    where
      both? : (q : ℕ) → Dec (p < q) → Decided (MatchedAt rs t q) → Decided ((p < q) × MatchedAt rs t q)
      both? q (yes l) (inl m) = inl (l, m)
      both? q (yes l) (inr n) = inr (λ x. n x.1)
      both? q (no n) m = inr (λ x. n x.0)

      go : Decided (MatchedAt rs t p) → Least (λ q. (p < q) × MatchedAt rs t q) (p + size (part t p)) ⊎ ((q : ℕ) → q < p + size (part t p) → (p < q) × MatchedAt rs t q → ⊥) → Decided (InnermostAt rs t p)
      go (inr n) r = inr (λ i. n i.matched)
      go (inl m) (inl l) = inr (λ i. i.none_inside l.at l.holds.0 l.below l.holds.1)
      go (inl m) (inr n) = inl (record { matched = m; none_inside = λ q a b x. n q b (a, x) })

  -- ── a step where a rule matches, and a match where there is a step ──

  step_there : (t : Term) (p k : ℕ) → p < size t → (m : Matches rs k (part t p)) → (u : Term) × StepAt rs k p t u
  step_there t p k h m =
      let a = part_at t p h in
      let is : a.term ≡ sub m.instance (rule_at rs k).left = sym (parts_agree_with_contexts t p a).0 ∙ m.is in (
        plug a.context (sub m.instance (rule_at rs k).right),
        record {
          step = record { number = k; is_rule = m.is_rule; context = a.context; instance = m.instance; before = a.splits ∙ ap (plug a.context) is; becomes = refl };
          rule_is = refl;
          place_is = a.at;
        },
      )

  pub match_there : (t u : Term) (s : Step rs t u) → Matches rs s.number (part t (place s.context))
  match_there t u s =
      let l = sub s.instance (rule_at rs s.number).left in
      record {
        is_rule = s.is_rule;
        instance = s.instance;
        is = (parts_agree_with_contexts t (place s.context) (record { context = s.context; term = l; splits = s.before; at = refl })).0;
      }

  pub matched_there : (t u : Term) (s : Step rs t u) → MatchedAt rs t (place s.context)
  matched_there t u s = record {
    inside = subst (λ v. place s.context < size v) (sym s.before) (place_below s.context (sub s.instance (rule_at rs s.number).left));
    rule = s.number;
    matches = match_there t u s;
  }

  -- ── there is one, unless the term is a normal form ──

  pub innermost_or_normal : (t : Term) → ((p k : ℕ) × (u : Term) × InnermostStep rs t p k u) ⊎ Normal (Step rs) t
  innermost_or_normal t = go (least (InnermostAt rs t) (size t) (innermost? t)) (greatest (MatchedAt rs t) (size t) (matched? t))
    where
      found : (l : Least (InnermostAt rs t) (size t)) → Least (λ k. Matches rs k (part t l.at)) (length rs) ⊎ ((k : ℕ) → k < length rs → Matches rs k (part t l.at) → ⊥) → (p k : ℕ) × (u : Term) × InnermostStep rs t p k u
      found l (inl r) =
          let s = step_there t l.at r.at l.below r.holds in
          (l.at, r.at, s.0, record { innermost = l.holds; least = l.first; lowest = r.first; step = s.1 })
      found l (inr n) = let m = l.holds.matched in absurd (n m.rule m.matches.is_rule m.matches)

      go : Least (InnermostAt rs t) (size t) ⊎ ((p : ℕ) → p < size t → InnermostAt rs t p → ⊥) → Greatest (MatchedAt rs t) (size t) ⊎ ((p : ℕ) → p < size t → MatchedAt rs t p → ⊥) → ((p k : ℕ) × (u : Term) × InnermostStep rs t p k u) ⊎ Normal (Step rs) t
      go (inl l) g = inl (found l (lowest_rule (part t l.at)))
      go (inr n) (inl g) = absurd (n g.at g.holds.inside (record { matched = g.holds; none_inside = λ q a b m. g.last q a m.inside m }))
      go (inr n) (inr m) = inr (λ u s. m (place s.context) (matched_there t u s).inside (matched_there t u s))

  -- ── there is one only ──

  same_place : (t : Term) (p q k j : ℕ) (u v : Term) → InnermostStep rs t p k u → InnermostStep rs t q j v → p ≡ q
  same_place t p q k j u v a b = go (dec_lt p q) (dec_lt q p)
    where
      go : Dec (p < q) → Dec (q < p) → p ≡ q
      go (yes l) d = absurd (b.least p l a.innermost)
      go (no n) (yes l) = absurd (a.least q l b.innermost)
      go (no n) (no m) = omega arith

  match_of : (t u : Term) (p k : ℕ) → StepAt rs k p t u → Matches rs k (part t p)
  match_of t u p k s = subst (λ n. Matches rs n (part t p)) s.rule_is (subst (λ q. Matches rs s.step.number (part t q)) s.place_is (match_there t u s.step))

  same_rule : (t : Term) (p k j : ℕ) (u v : Term) → InnermostStep rs t p k u → InnermostStep rs t p j v → k ≡ j
  same_rule t p k j u v a b = go (dec_lt k j) (dec_lt j k)
    where
      go : Dec (k < j) → Dec (j < k) → k ≡ j
      go (yes l) d = absurd (b.lowest k l (match_of t u p k a.step))
      go (no n) (yes l) = absurd (a.lowest j l (match_of t v p j b.step))
      go (no n) (no m) = omega arith

  module _ (proper : Proper rs) where
    -- a step is determined by its rule and its place
    pub same_result : (t u v : Term) (k p : ℕ) → StepAt rs k p t u → StepAt rs k p t v → u ≡ v
    same_result t u v k p a b =
        let s = a.step in
        let r = b.step in
        let number : s.number ≡ r.number = a.rule_is ∙ sym b.rule_is in
        let there = place_unique s.context r.context (sub s.instance (rule_at rs s.number).left) (sub r.instance (rule_at rs r.number).left) (sym s.before ∙ r.before) (a.place_is ∙ sym b.place_is) in
        let agree = sub_agree (rule_at rs s.number).left s.instance r.instance (there.1 ∙ ap (λ n. sub r.instance (rule_at rs n).left) (sym number)) in
        s.becomes
        ∙ ap₂ plug there.0 (sub_cong (rule_at rs s.number).right s.instance r.instance (λ x o. agree x ((proper s.number s.is_rule).1 x o)) ∙ ap (λ n. sub r.instance (rule_at rs n).right) number)
        ∙ sym r.becomes

    pub one_innermost : (t : Term) (p q k j : ℕ) (u v : Term) → InnermostStep rs t p k u → InnermostStep rs t q j v → (p ≡ q) × (k ≡ j) × (u ≡ v)
    one_innermost t p q k j u v a b =
        let e = same_place t p q k j u v a b in
        let c = subst (λ n. InnermostStep rs t n j v) (sym e) b in
        let f = same_rule t p k j u v a c in
        (e, f, same_result t u v k p a.step (subst (λ n. StepAt rs n p t v) (sym f) c.step))

  -- ── enough of them lead to a normal form ──

  module _ (S : Term → Term → Type 0) (W : Term → Type 0) (goes : (t u : Term) → Step rs t u → W t → S t u × W u) where
    pub innermost_ends : (t : Term) → Acc (λ u t. S t u) t → W t → (n : ℕ) × (u : Term) × InnermostSteps rs n t u × Normal (Step rs) u
    innermost_ends t (Acc.intro s h) w = go (innermost_or_normal s) (λ p k u i. let g = goes s u i.step.step w in innermost_ends u (h u g.0) g.1)
      where
        go : ((p k : ℕ) × (u : Term) × InnermostStep rs s p k u) ⊎ Normal (Step rs) s → ((p k : ℕ) (u : Term) → InnermostStep rs s p k u → (n : ℕ) × (v : Term) × InnermostSteps rs n u v × Normal (Step rs) v) → (n : ℕ) × (u : Term) × InnermostSteps rs n s u × Normal (Step rs) u
        go (inl i) later =
            let r = later i.0 i.1 i.2 i.3 in
            (1 + r.0, r.1, more i.3 r.2, r.3)
        go (inr n) later = (0, s, none, n)
