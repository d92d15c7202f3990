-- Rules that fall in a reduction order terminate on the terms of its signature; and induction along accessible descent.
use Rattle.std.proofs.Common.{◌≡◌, ℕ, ◌≤◌, List, sym, refl, subst, subst₂, arith}
use mathlib.Core.WellFounded.{Acc}
use Rattle.terms.specs.Term.{Kind, Tree, var, node, nil, cons, Term, Rule, rule_at, Subst, sub, Occurs}
use Rattle.terms.specs.Prefix.{Arities, WellSorted}
use Rattle.terms.proofs.Parts.{sorted_part}
use Rattle.rewriting.specs.Relation.{Terminating}
use Rattle.rewriting.specs.Rewrite.{StepOf, Proper, RulesOf}
use Rattle.rewriting.specs.Order.{OverOf, SubstOf, ReductionOrder, Oriented}
use Rattle.rewriting.proofs.Substitution.{sub_cong}
use Rattle.rewriting.proofs.Sorted.{sorted_sub, sorted_var}
use Rattle.rewriting.proofs.Unification.{occurs?}

pick : {P : Type 0} → Dec P → Term → Term → Term
pick (yes p) t u = t
pick (no n) t u = u

-- σ on the variables of l, and a variable elsewhere
only_on : Term → Subst → Subst
only_on l σ x = pick (occurs? x l) (σ x) (var 128)

only_same : (l : Term) (σ : Subst) (x : ℕ) → Occurs x l → only_on l σ x ≡ σ x
unfolding only_on pick
only_same l σ x o = go (occurs? x l)
  where
    go : (d : Dec (Occurs x l)) → pick d (σ x) (var 128) ≡ σ x
    go (yes h) = refl
    go (no n) = absurd (n o)

only_sorted : (sig : Arities) (l : Term) (σ : Subst) → ((x : ℕ) → Occurs x l → WellSorted sig 8 (σ x)) → SubstOf sig (only_on l σ)
unfolding only_on pick
only_sorted sig l σ h x a b = go (occurs? x l)
  where
    go : (d : Dec (Occurs x l)) → WellSorted sig 8 (pick d (σ x) (var 128))
    go (yes o) = h x o
    go (no n) = (omega arith, omega arith)

-- more variables are allowed
pub sorted_wider : {k : Kind} (sig : Arities) (m n : ℕ) → m ≤ n → (t : Tree k) → WellSorted sig m t → WellSorted sig n t
sorted_wider sig m n h (var x) w = (w.0, omega (arith, w.1))
sorted_wider sig m n h (node f ts) w = (w.0, w.1, sorted_wider sig m n h ts w.2)
sorted_wider sig m n h nil w = tt
sorted_wider sig m n h (cons t ts) w = (sorted_wider sig m n h t w.0, sorted_wider sig m n h ts w.1)

module _ (sig : Arities) (over : Term → Term → Type 0) (order : ReductionOrder sig over) (rs : List Rule) (rules : RulesOf sig 4 rs) (proper : Proper rs) (oriented : Oriented over rs) where
  -- each step goes down
  step_over : (t u : Term) → StepOf sig 8 rs t u → OverOf sig over t u
  step_over t u s =
      let r = s.step in
      let C = r.context in
      let i = r.number in
      let l = (rule_at rs i).left in
      let σ = r.instance in
      let whole = subst (WellSorted sig 8) r.before s.from in
      let instance = sorted_part sig 8 C (sub σ l) whole in
      let τ = only_on l σ in
      let left : sub τ l ≡ sub σ l = sub_cong l τ σ (only_same l σ) in
      let right : sub τ (rule_at rs i).right ≡ sub σ (rule_at rs i).right = sub_cong (rule_at rs i).right τ σ (λ x o. only_same l σ x ((proper i r.is_rule).1 x o)) in
      let sorted : SubstOf sig τ = only_sorted sig l σ (sorted_var sig 8 σ l instance) in
      let sides : OverOf sig over l (rule_at rs i).right = record { from = sorted_wider sig 4 8 (omega arith) l (rules i r.is_rule).0; to = sorted_wider sig 4 8 (omega arith) (rule_at rs i).right (rules i r.is_rule).1; is_over = oriented i r.is_rule } in
      let inner : over (sub σ l) (sub σ (rule_at rs i).right) = subst₂ over left right (order.substitutions τ sorted l (rule_at rs i).right sides) in
      let below : WellSorted sig 8 (sub σ (rule_at rs i).right) = sorted_sub sig 4 8 σ (rule_at rs i).right (rules i r.is_rule).1 (λ x o. sorted_var sig 8 σ l instance x ((proper i r.is_rule).1 x o)) in
      record {
        from = s.from;
        to = s.to;
        is_over = subst₂ over (sym r.before) (sym r.becomes) (order.contexts C (sub σ l) (sub σ (rule_at rs i).right) (record { from = instance; to = below; is_over = inner }) whole);
      }

  -- what is accessible in the order is accessible by steps
  down : (t : Term) → Acc (λ u t. OverOf sig over t u) t → Acc (λ u t. StepOf sig 8 rs t u) t
  down t (Acc.intro s h) = Acc.intro s (λ u r. down u (h u (step_over s u r)))

  pub oriented_rules_terminate : Terminating (StepOf sig 8 rs)
  oriented_rules_terminate t = down t (order.no_descent t)

-- ── no endless descent is induction ──

module _ {A : Type 0} (R : A → A → Type 0) where
  -- a property that an element has whenever all that it steps to have it, holds of every accessible element
  pub accessible_induction : (P : A → Type 0) → ((x : A) → ((y : A) → R x y → P y) → P x) → (x : A) → Acc (λ y x. R x y) x → P x
  accessible_induction P ind x (Acc.intro z h) = ind z (λ y r. accessible_induction P ind y (h y r))

  -- and accessibility is such a property
  pub accessible_passes : (x : A) → ((y : A) → R x y → Acc (λ y x. R x y) y) → Acc (λ y x. R x y) x
  accessible_passes x h = Acc.intro x h
