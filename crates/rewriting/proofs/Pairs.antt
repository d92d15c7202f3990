-- The critical pair theorem, as textbooks state it, and that an overlap has one peak and one pair of sides.
use Rattle.std.proofs.Common.{◌≡◌, ℕ, ◌+◌, ◌-◌, ◌<◌, ◌≤◌, ◌⊎◌, List, length, sym, refl, ap, ◌∙◌, subst, subst₂, inl, inr, arith}
use native.Mathlib.Decide.{dec_lt}
use Rattle.terms.specs.Term.{Kind, one, Tree, var, node, nil, cons, Term, Rule, rule_at, Subst, sub, Occurs, IsNode, size}
use Rattle.terms.specs.Place.{Context, hole, under, head, tail, plug, sub_context, place, part, PartAt}
use Rattle.terms.proofs.Places.{part_at, place_below, parts_agree_with_contexts}
use Rattle.rewriting.specs.Relation.{Joinable, LocallyConfluent}
use Rattle.rewriting.specs.Rewrite.{Step, Proper}
use Rattle.rewriting.specs.Unify.{IsMgu, NotUnifiable, Unifier, distinct, FourVariables, Overlap, renumbering, replaced_at, CriticalPair, OverlapsJoin}
use Rattle.rewriting.proofs.Substitution.{sub_cong, sub_sub, sub_factor, sub_plug, occurs_plug}
use Rattle.rewriting.proofs.Closure.{step_root, step_plug, step_sub, join_sub}
use Rattle.rewriting.proofs.CriticalPairs.{MostGeneral, CriticalPairsJoinable, critical_pair_lemma}
use Rattle.rewriting.proofs.Unification.{unification, occurs_sub}
use Rattle.rewriting.proofs.Numbering.{numbering_back, unnumber, same_numbers}

-- ── two substitutions as one, the variables of the second being made distinct ──

either : {P : Type 0} → Dec P → Term → Term → Term
either (yes p) t u = t
either (no n) t u = u

joined : Subst → Subst → Subst
joined σ τ x = either (dec_lt x 132) (σ x) (τ (x - 4))

joined_first : (σ τ : Subst) (x : ℕ) → x < 132 → joined σ τ x ≡ σ x
unfolding joined either
joined_first σ τ x h = go (dec_lt x 132)
  where
    go : (d : Dec (x < 132)) → either d (σ x) (τ (x - 4)) ≡ σ x
    go (yes p) = refl
    go (no n) = absurd (n h)

joined_second : (σ τ : Subst) (x : ℕ) → 128 ≤ x → joined σ τ (x + 4) ≡ τ x
unfolding joined either
joined_second σ τ x h = go (dec_lt (x + 4) 132)
  where
    go : (d : Dec (x + 4 < 132)) → either d (σ (x + 4)) (τ ((x + 4) - 4)) ≡ τ x
    go (yes p) = absurd (omega arith)
    go (no n) = ap τ (omega arith)

-- the instance of a distinct term is an instance of the term
distinct_sub : (μ : Subst) (t : Term) → sub μ (distinct t) ≡ sub (λ x. μ (x + 4)) t
distinct_sub μ t = sub_sub μ (λ x. var (x + 4)) t

module _ (within q t : Term) (first : (x : ℕ) → Occurs x within → x < 132) (second : (x : ℕ) → Occurs x t → 128 ≤ x) (inside : (x : ℕ) → Occurs x q → Occurs x within) where
  joined_unifies : (σ τ : Subst) → sub σ q ≡ sub τ t → Unifier (joined σ τ) q (distinct t)
  joined_unifies σ τ e =
      sub_cong q (joined σ τ) σ (λ x o. joined_first σ τ x (first x (inside x o)))
      ∙ e
      ∙ sym (distinct_sub (joined σ τ) t ∙ sub_cong t (λ x. joined σ τ (x + 4)) τ (λ x o. joined_second σ τ x (second x o)))

  apart : (μ : Subst) → IsMgu μ q (distinct t) → MostGeneral within q t μ (λ x. μ (x + 4))
  apart μ m = record {
    unifies = m.unifies ∙ distinct_sub μ t;
    general = λ σ τ e.
        let g = m.general (joined σ τ) (joined_unifies σ τ e) in (
          g.0,
          λ x o. sym (joined_first σ τ x (first x o)) ∙ g.1 x,
          λ x o. sym (joined_second σ τ x (second x o)) ∙ g.1 (x + 4),
        );
  }

-- ── variables of instances ──

sub_occurs : {k : Kind} (μ : Subst) (t : Tree k) (x z : ℕ) → Occurs x t → Occurs z (μ x) → Occurs z (sub μ t)
sub_occurs μ (var y) x z o p = subst (λ w. Occurs z (μ w)) o p
sub_occurs μ (node f ts) x z o p = sub_occurs μ ts x z o p
sub_occurs μ nil x z o p = absurd o
sub_occurs μ (cons t ts) x z (inl o) p = inl (sub_occurs μ t x z o p)
sub_occurs μ (cons t ts) x z (inr o) p = inr (sub_occurs μ ts x z o p)

-- a variable of C with a term in its hole stands in that term, or in C with any other term too
around_or_inside : {k : Kind} (C : Context k) (s : Term) (x : ℕ) → Occurs x (plug C s) → Occurs x s ⊎ ((u : Term) → Occurs x (plug C u))
around_or_inside hole s x o = inl o
around_or_inside (under f C) s x o = around_or_inside C s x o
around_or_inside (head C ts) s x (inl o) = go (around_or_inside C s x o)
  where
    go : Occurs x s ⊎ ((u : Term) → Occurs x (plug C u)) → Occurs x s ⊎ ((u : Term) → Occurs x (plug C u) ⊎ Occurs x ts)
    go (inl a) = inl a
    go (inr b) = inr (λ u. inl (b u))
around_or_inside (head C ts) s x (inr o) = inr (λ u. inr o)
around_or_inside (tail t C) s x (inl o) = inr (λ u. inl o)
around_or_inside (tail t C) s x (inr o) = go (around_or_inside C s x o)
  where
    go : Occurs x s ⊎ ((u : Term) → Occurs x (plug C u)) → Occurs x s ⊎ ((u : Term) → Occurs x t ⊎ Occurs x (plug C u))
    go (inl a) = inl a
    go (inr b) = inr (λ u. inr (b u))

module _ (rs : List Rule) where
  -- the part at the place of an overlap, by a context
  pub split : (i p j : ℕ) → Overlap rs i p j → PartAt (rule_at rs i).left p
  split i p j o = part_at (rule_at rs i).left p o.inside

  replaced_is : (i p j : ℕ) (a : PartAt (rule_at rs i).left p) → replaced_at rs i p j ≡ plug a.context (distinct (rule_at rs j).right)
  replaced_is i p j a = (parts_agree_with_contexts (rule_at rs i).left p a).1 (distinct (rule_at rs j).right)

  inner_is_plugged : (i p j : ℕ) (μ : Subst) (a : PartAt (rule_at rs i).left p) → sub μ (replaced_at rs i p j) ≡ plug (sub_context μ a.context) (sub (λ x. μ (x + 4)) (rule_at rs j).right)
  inner_is_plugged i p j μ a =
      ap (sub μ) (replaced_is i p j a) ∙ sub_plug μ a.context (distinct (rule_at rs j).right) ∙ ap (plug (sub_context μ a.context)) (distinct_sub μ (rule_at rs j).right)

  -- the left side under the unifier has j's left side in the place of the part
  peak_is_plugged : (i p j : ℕ) (μ : Subst) (a : PartAt (rule_at rs i).left p) → sub μ (part (rule_at rs i).left p) ≡ sub μ (distinct (rule_at rs j).left) → sub μ (rule_at rs i).left ≡ plug (sub_context μ a.context) (sub (λ x. μ (x + 4)) (rule_at rs j).left)
  peak_is_plugged i p j μ a e =
      ap (sub μ) a.splits ∙ sub_plug μ a.context a.term
      ∙ ap (plug (sub_context μ a.context)) (ap (sub μ) (sym (parts_agree_with_contexts (rule_at rs i).left p a).0) ∙ e ∙ distinct_sub μ (rule_at rs j).left)

  module _ (proper : Proper rs) where
    outer_variables : (i : ℕ) → i < length rs → (μ : Subst) (z : ℕ) → Occurs z (sub μ (rule_at rs i).right) → Occurs z (sub μ (rule_at rs i).left)
    outer_variables i h μ z o =
        let r = occurs_sub μ (rule_at rs i).right z o in
        sub_occurs μ (rule_at rs i).left r.0 z ((proper i h).1 r.0 r.1) r.2

    inner_variables : (i p j : ℕ) → j < length rs → (μ : Subst) → PartAt (rule_at rs i).left p → sub μ (part (rule_at rs i).left p) ≡ sub μ (distinct (rule_at rs j).left) → (z : ℕ) → Occurs z (sub μ (replaced_at rs i p j)) → Occurs z (sub μ (rule_at rs i).left)
    inner_variables i p j h μ a e z o =
        let D = sub_context μ a.context in
        let ν : Subst = λ x. μ (x + 4) in
        let whole = peak_is_plugged i p j μ a e in
        go D ν whole (around_or_inside D (sub ν (rule_at rs j).right) z (subst (λ t. Occurs z t) (inner_is_plugged i p j μ a) o))
      where
        go : (D : Context one) (ν : Subst) → sub μ (rule_at rs i).left ≡ plug D (sub ν (rule_at rs j).left) → Occurs z (sub ν (rule_at rs j).right) ⊎ ((u : Term) → Occurs z (plug D u)) → Occurs z (sub μ (rule_at rs i).left)
        go D ν whole (inl b) = subst (λ t. Occurs z t) (sym whole) (occurs_plug D (sub ν (rule_at rs j).left) z (outer_variables j h ν z b))
        go D ν whole (inr c) = subst (λ t. Occurs z t) (sym whole) (c (sub ν (rule_at rs j).left))

    -- ── one peak, one outer and one inner side ──

    pub one_critical_pair : (i p j : ℕ) (a b c a' b' c' : Term) → CriticalPair rs i p j a b c → CriticalPair rs i p j a' b' c' → (a ≡ a') × (b ≡ b') × (c ≡ c')
    one_critical_pair i p j a b c a' b' c' x y =
        let l = (rule_at rs i).left in
        let r = (rule_at rs i).right in
        let w = replaced_at rs i p j in
        let μ = x.μ in
        let ν = y.μ in
        let δ = x.mgu.general ν y.mgu.unifies in
        let ε = y.mgu.general μ x.mgu.unifies in
        let over : (t : Term) → sub ν t ≡ sub δ.0 (sub μ t) = λ t. sub_factor t ν δ.0 μ (λ v o. δ.1 v) in
        let back : (t : Term) → sub μ t ≡ sub ε.0 (sub ν t) = λ t. sub_factor t μ ε.0 ν (λ v o. ε.1 v) in
        let same : (t : Term) → ((v : ℕ) → Occurs v (sub μ t) → Occurs v (sub μ l)) → sub (renumbering (sub μ l)) (sub μ t) ≡ sub (renumbering (sub ν l)) (sub ν t) =
        λ t h. sym (ap (sub (renumbering (sub ν l))) (over t) ∙ same_numbers (sub μ l) (sub ν l) δ.0 ε.0 (sym (over l)) (sym (back l)) (sub μ t) h) in (
          x.peak_is ∙ same l (λ v o. o) ∙ sym y.peak_is,
          x.outer_is ∙ same r (outer_variables i x.overlap.first_rule μ) ∙ sym y.outer_is,
          x.inner_is ∙ same w (inner_variables i p j x.overlap.second_rule μ (split i p j x.overlap) x.mgu.unifies) ∙ sym y.inner_is,
        )

  -- ── locally confluent rules join their overlaps ──

  peak_outer : (i p j : ℕ) (a b c : Term) → CriticalPair rs i p j a b c → Step rs a b
  peak_outer i p j a b c x =
      subst₂ (Step rs) (sym x.peak_is) (sym x.outer_is)
      (step_sub (renumbering (sub x.μ (rule_at rs i).left)) (step_root i x.overlap.first_rule x.μ))

  peak_inner : (i p j : ℕ) (a b c : Term) → CriticalPair rs i p j a b c → Step rs a c
  peak_inner i p j a b c x =
      let μ = x.μ in
      let at = split i p j x.overlap in
      let D = sub_context μ at.context in
      subst₂ (Step rs) (sym x.peak_is) (sym x.inner_is)
      (step_sub (renumbering (sub μ (rule_at rs i).left))
      (subst₂ (Step rs) (sym (peak_is_plugged i p j μ at x.mgu.unifies)) (sym (inner_is_plugged i p j μ at))
      (step_plug D (step_root j x.overlap.second_rule (λ v. μ (v + 4))))))

  pub local_joins : LocallyConfluent (Step rs {k = one}) → OverlapsJoin rs
  local_joins local i p j a b c x = local a b c (peak_outer i p j a b c x) (peak_inner i p j a b c x)

  -- ── rules that join their overlaps are locally confluent ──

  at_root : (D : Context one) → place D ≡ 0 → D ≡ hole
  at_root hole e = refl
  at_root (under f D) e = absurd (omega arith)

  module _ (proper : Proper rs) (four : FourVariables rs) (joins : OverlapsJoin rs) where
    joinable : CriticalPairsJoinable rs
    joinable i j D q o σ τ e = go (unification one q (distinct (rule_at rs j).left))
      where
        l : Term
        l = (rule_at rs i).left

        first : (x : ℕ) → Occurs x (rule_at rs i).left → x < 132
        first x h = (four i x o.first_rule h).1

        second : (x : ℕ) → Occurs x (rule_at rs j).left → 128 ≤ x
        second x h = (four j x o.second_rule h).0

        inside : (x : ℕ) → Occurs x q → Occurs x (rule_at rs i).left
        inside x h = subst (λ t. Occurs x t) (sym o.place) (occurs_plug D q x h)

        at : PartAt (rule_at rs i).left (place D)
        at = record { context = D; term = q; splits = o.place; at = refl }

        part_is : part (rule_at rs i).left (place D) ≡ q
        part_is = (parts_agree_with_contexts (rule_at rs i).left (place D) at).0

        overlap : (μ : Subst) → IsMgu μ q (distinct (rule_at rs j).left) → Overlap rs i (place D) j
        overlap μ m = record {
          first_rule = o.first_rule;
          second_rule = o.second_rule;
          inside = subst (λ t. place D < size t) (sym o.place) (place_below D q);
          no_variable = subst IsNode (sym part_is) o.no_variable;
          unifier = μ;
          unifies = ap (sub μ) part_is ∙ m.unifies;
          proper = λ z. o.proper (at_root D z);
        }

        go : ((μ : Subst) × IsMgu μ q (distinct (rule_at rs j).left)) ⊎ NotUnifiable q (distinct (rule_at rs j).left) →
            (μ ν : Subst) × MostGeneral (rule_at rs i).left q (rule_at rs j).left μ ν
            × Joinable (Step rs) (sub μ (rule_at rs i).right) (plug (sub_context μ D) (sub ν (rule_at rs j).right))
        go (inr n) = absurd (n (joined σ τ) (joined_unifies (rule_at rs i).left q (rule_at rs j).left first second inside σ τ e))
        go (inl m) =
            let μ = m.0 in
            let unifies : sub μ (part (rule_at rs i).left (place D)) ≡ sub μ (distinct (rule_at rs j).left) = ap (sub μ) part_is ∙ m.1.unifies in
            let whole = sub μ (rule_at rs i).left in
            let cp : CriticalPair rs i (place D) j (sub (renumbering whole) whole) (sub (renumbering whole) (sub μ (rule_at rs i).right)) (sub (renumbering whole) (sub μ (replaced_at rs i (place D) j))) =
            record { overlap = overlap μ m.1; μ = μ; mgu = subst (λ t. IsMgu μ t (distinct (rule_at rs j).left)) (sym part_is) m.1; peak_is = refl; outer_is = refl; inner_is = refl } in
            let back = join_sub (numbering_back whole) (joins i (place D) j _ _ _ cp) in (
              μ,
              λ x. μ (x + 4),
              apart (rule_at rs i).left q (rule_at rs j).left first second inside μ m.1,
              subst₂ (Joinable (Step rs))
                  (unnumber whole (sub μ (rule_at rs i).right) (outer_variables proper i o.first_rule μ))
                  (unnumber whole (sub μ (replaced_at rs i (place D) j)) (inner_variables proper i (place D) j o.second_rule μ at unifies) ∙ inner_is_plugged i (place D) j μ at)
                  back,
            )

    pub joins_local : LocallyConfluent (Step rs {k = one})
    joins_local = critical_pair_lemma rs one proper joinable
