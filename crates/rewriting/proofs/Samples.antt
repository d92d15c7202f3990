-- The small examples.
use Rattle.std.proofs.Common.{◌≡◌, ℕ, zero, suc, ◌+◌, ◌<◌, Bool, true, false, cond, eqb, List, [], ◌∷◌, sym, refl, ap, ◌∙◌, subst, inl, inr, arith, lit<, lit≤}
use Rattle.std.proofs.lemmas.Bool.{eqb-true}
use Rattle.terms.specs.Term.{var, nil, Term, Rule, rule_at, Subst, sub, size}
use Rattle.terms.specs.Place.{hole, under, head, place, part}
use mathlib.Core.WellFounded.{Acc}
use Rattle.rewriting.specs.Order.{OverOf}
use Rattle.rewriting.specs.Relation.{step, Joinable, Normal}
use Rattle.rewriting.specs.Rewrite.{Step, MatchedAt, InnermostAt, InnermostStep, none, more}
use Rattle.rewriting.specs.Unify.{IsMgu, Overlap, CriticalPair, OverlapList, Listed, Triple}
use Rattle.rewriting.specs.Examples.{e, f, g, x, self_overlapping, idempotent, SelfOverlapExample, NoOverlapExample, InnermostExample, GrowingExample, RootExample, OrderExample}
use Rattle.rewriting.proofs.Abstract.{normal_unique, single}
use Rattle.rewriting.proofs.Innermost.{matched_there}
use Rattle.rewriting.proofs.Pairs.{local_joins}

clash : ◌≡◌ {A = ℕ} 0 1 → ⊥
clash z = omega arith

-- where no rule matches at any place, there is no step
normal_from : (rs : List Rule) (t : Term) → ((p : ℕ) → MatchedAt rs t p → ⊥) → Normal (Step rs) t
normal_from rs t n u s = n (place s.context) (matched_there rs t u s)

-- ── f f x → g x ──

sole_overlap : (i p j : ℕ) → Overlap self_overlapping i p j → (i ≡ 0) × (p ≡ 1) × (j ≡ 0)
sole_overlap (suc i) p j o = absurd (omega (arith, o.first_rule))
sole_overlap zero p (suc j) o = absurd (omega (arith, o.second_rule))
sole_overlap zero zero zero o = absurd (omega (arith, o.proper refl))
sole_overlap zero (suc zero) zero o = (refl, refl, refl)
sole_overlap zero (suc (suc zero)) zero o = absurd o.no_variable
sole_overlap zero (suc (suc (suc p))) zero o = absurd (omega (arith, o.inside))

-- x ↦ f(x'), with x' the variable 132
abbrev μ : Subst
μ v = cond (eqb v 128) (f (var 132)) (var v)

mgu : IsMgu μ (f x) (f (f (var 132)))
mgu = record { unifies = refl; general = λ σ q. (σ, λ v. go σ q v (eqb v 128) refl) }
  where
    go : (σ : Subst) → sub σ (f x) ≡ sub σ (f (f (var 132))) → (v : ℕ) (b : Bool) → eqb v 128 ≡ b → σ v ≡ sub σ (cond b (f (var 132)) (var v))
    go σ q v true d = ap σ (eqb-true v 128 d) ∙ (cc)
    go σ q v false d = refl

overlap : Overlap self_overlapping 0 1 0
overlap = record { first_rule = lit< tt; second_rule = lit< tt; inside = lit< tt; no_variable = tt; unifier = μ; unifies = refl; proper = λ z. absurd (omega arith) }

pair : CriticalPair self_overlapping 0 1 0 (f (f (f x))) (g (f x)) (f (g x))
pair = record { overlap = overlap; μ = μ; mgu = mgu; peak_is = refl; outer_is = refl; inner_is = refl }

-- the left side of the rule
left_is : (k : ℕ) → k < 1 → (σ : Subst) → sub σ (rule_at self_overlapping k).left ≡ f (f (σ 128))
left_is zero l σ = refl
left_is (suc k) l σ = absurd (omega arith)

found : (t : Term) (p : ℕ) → (m : MatchedAt self_overlapping t p) → part t p ≡ f (f (m.matches.instance 128))
found t p m = m.matches.is ∙ left_is m.rule m.matches.is_rule m.matches.instance

gfx_normal : (p : ℕ) → MatchedAt self_overlapping (g (f x)) p → ⊥
gfx_normal zero m = let q = found (g (f x)) 0 m in let z : ◌≡◌ {A = ℕ} 3 2 = cc in omega arith
gfx_normal (suc zero) m = let q = found (g (f x)) 1 m in clash (cc)
gfx_normal (suc (suc zero)) m = let q = found (g (f x)) 2 m in clash (cc)
gfx_normal (suc (suc (suc p))) m = omega (arith, m.inside)

fgx_normal : (p : ℕ) → MatchedAt self_overlapping (f (g x)) p → ⊥
fgx_normal zero m = let q = found (f (g x)) 0 m in let z : ◌≡◌ {A = ℕ} 3 2 = cc in omega arith
fgx_normal (suc zero) m = let q = found (f (g x)) 1 m in let z : ◌≡◌ {A = ℕ} 3 2 = cc in omega arith
fgx_normal (suc (suc zero)) m = let q = found (f (g x)) 2 m in clash (cc)
fgx_normal (suc (suc (suc p))) m = omega (arith, m.inside)

no_join : Joinable (Step self_overlapping) (g (f x)) (f (g x)) → ⊥
no_join j =
    let q : g (f x) ≡ f (g x) = normal_unique (normal_from self_overlapping (g (f x)) gfx_normal) (normal_from self_overlapping (f (g x)) fgx_normal) j in
    let z : ◌≡◌ {A = ℕ} 3 2 = cc in
    omega arith

listing : OverlapList self_overlapping (record { i = 0; p = 1; j = 0 } ∷ [])
listing = record {
  ascending = (tt, tt);
  listed = λ a o. let s = sole_overlap a.i a.p a.j o in inl (λ k. record { i = s.0 k; p = s.1 k; j = s.2 k });
  overlaps = from;
}
  where
    from : (a : Triple) → Listed a (record { i = 0; p = 1; j = 0 } ∷ []) → Overlap self_overlapping a.i a.p a.j
    from a (inl q) = subst (λ b. Overlap self_overlapping b.i b.p b.j) (sym q) overlap
    from a (inr l) = absurd l

pub self_overlap_example : SelfOverlapExample
self_overlap_example = record {
  sole = sole_overlap;
  list = listing;
  sides = pair;
  no_join = no_join;
  not_local = λ local. no_join (local_joins self_overlapping local 0 1 0 _ _ _ pair);
}

-- ── h x x → x and h x (g x) → g x ──

-- no term is its own argument
not_inside : (t : Term) → t ≡ g t → ⊥
not_inside t q = omega (arith, ap size q)

pub no_overlap_example : NoOverlapExample
no_overlap_example (suc (suc i)) p j o = omega (arith, o.first_rule)
no_overlap_example zero p (suc (suc j)) o = omega (arith, o.second_rule)
no_overlap_example (suc zero) p (suc (suc j)) o = omega (arith, o.second_rule)
no_overlap_example zero zero zero o = omega (arith, o.proper refl)
no_overlap_example zero zero (suc zero) o = let q = o.unifies in not_inside (o.unifier 132) (cc)
no_overlap_example zero (suc zero) zero o = o.no_variable
no_overlap_example zero (suc zero) (suc zero) o = o.no_variable
no_overlap_example zero (suc (suc zero)) zero o = o.no_variable
no_overlap_example zero (suc (suc zero)) (suc zero) o = o.no_variable
no_overlap_example zero (suc (suc (suc p))) zero o = omega (arith, o.inside)
no_overlap_example zero (suc (suc (suc p))) (suc zero) o = omega (arith, o.inside)
no_overlap_example (suc zero) zero zero o = omega (arith, o.proper refl)
no_overlap_example (suc zero) zero (suc zero) o = omega (arith, o.proper refl)
no_overlap_example (suc zero) (suc zero) zero o = o.no_variable
no_overlap_example (suc zero) (suc zero) (suc zero) o = o.no_variable
no_overlap_example (suc zero) (suc (suc zero)) zero o = let q = o.unifies in let z : ◌≡◌ {A = ℕ} 3 4 = cc in omega arith
no_overlap_example (suc zero) (suc (suc zero)) (suc zero) o = let q = o.unifies in let z : ◌≡◌ {A = ℕ} 3 4 = cc in omega arith
no_overlap_example (suc zero) (suc (suc (suc zero))) zero o = o.no_variable
no_overlap_example (suc zero) (suc (suc (suc zero))) (suc zero) o = o.no_variable
no_overlap_example (suc zero) (suc (suc (suc (suc p)))) zero o = omega (arith, o.inside)
no_overlap_example (suc zero) (suc (suc (suc (suc p)))) (suc zero) o = omega (arith, o.inside)

-- ── f f x → f x ──

left_of : (k : ℕ) → k < 1 → (σ : Subst) → sub σ (rule_at idempotent k).left ≡ f (f (σ 128))
left_of zero l σ = refl
left_of (suc k) l σ = absurd (omega arith)

matched : (t : Term) (p : ℕ) → (m : MatchedAt idempotent t p) → part t p ≡ f (f (m.matches.instance 128))
matched t p m = m.matches.is ∙ left_of m.rule m.matches.is_rule m.matches.instance

first_step : InnermostStep idempotent (f (f (f e))) 1 0 (f (f e))
first_step = record {
  innermost = record { matched = here; none_inside = inside };
  least = before;
  lowest = λ j l m. omega arith;
  step = record { step = record { number = 0; is_rule = lit< tt; context = under 2 (head hole nil); instance = λ v. e; before = refl; becomes = refl }; rule_is = refl; place_is = refl };
}
  where
    here : MatchedAt idempotent (f (f (f e))) 1
    here = record { inside = lit< tt; rule = 0; matches = record { is_rule = lit< tt; instance = λ v. e; is = refl } }

    inside : (q : ℕ) → 1 < q → q < 1 + size (part (f (f (f e))) 1) → MatchedAt idempotent (f (f (f e))) q → ⊥
    inside zero a b m = omega arith
    inside (suc zero) a b m = omega arith
    inside (suc (suc zero)) a b m = let r = matched (f (f (f e))) 2 m in let z : ◌≡◌ {A = ℕ} 1 2 = cc in omega arith
    inside (suc (suc (suc zero))) a b m = let r = matched (f (f (f e))) 3 m in let z : ◌≡◌ {A = ℕ} 1 2 = cc in omega arith
    inside (suc (suc (suc (suc q)))) a b m = omega arith

    before : (q : ℕ) → q < 1 → InnermostAt idempotent (f (f (f e))) q → ⊥
    before zero a i = i.none_inside 1 (omega arith) (lit< tt) here
    before (suc q) a i = omega arith

second_step : InnermostStep idempotent (f (f e)) 0 0 (f e)
second_step = record {
  innermost = record { matched = record { inside = lit< tt; rule = 0; matches = record { is_rule = lit< tt; instance = λ v. e; is = refl } }; none_inside = inside };
  least = λ q a i. omega arith;
  lowest = λ j l m. omega arith;
  step = record { step = record { number = 0; is_rule = lit< tt; context = hole; instance = λ v. e; before = refl; becomes = refl }; rule_is = refl; place_is = refl };
}
  where
    inside : (q : ℕ) → 0 < q → q < 0 + size (part (f (f e)) 0) → MatchedAt idempotent (f (f e)) q → ⊥
    inside zero a b m = omega arith
    inside (suc zero) a b m = let r = matched (f (f e)) 1 m in let z : ◌≡◌ {A = ℕ} 1 2 = cc in omega arith
    inside (suc (suc zero)) a b m = let r = matched (f (f e)) 2 m in let z : ◌≡◌ {A = ℕ} 1 2 = cc in omega arith
    inside (suc (suc (suc q))) a b m = omega arith

fe_normal : (p : ℕ) → MatchedAt idempotent (f e) p → ⊥
fe_normal zero m = let r = matched (f e) 0 m in let z : ◌≡◌ {A = ℕ} 1 2 = cc in omega arith
fe_normal (suc zero) m = let r = matched (f e) 1 m in let z : ◌≡◌ {A = ℕ} 1 2 = cc in omega arith
fe_normal (suc (suc p)) m = omega (arith, m.inside)

pub innermost_example : InnermostExample
innermost_example = record {
  step = first_step;
  steps = more first_step (more second_step none);
  form = (step first_step.step.step (single second_step.step.step), normal_from idempotent (f e) fe_normal);
  not_normal = λ n. n (f e) second_step.step.step;
}

-- ── the place of the part moves ──

-- x ↦ f(x')
grown : IsMgu μ (g x) (g (f (var 132)))
grown = record { unifies = refl; general = λ σ q. (σ, λ v. go σ q v (eqb v 128) refl) }
  where
    go : (σ : Subst) → sub σ (g x) ≡ sub σ (g (f (var 132))) → (v : ℕ) (b : Bool) → eqb v 128 ≡ b → σ v ≡ sub σ (cond b (f (var 132)) (var v))
    go σ q v true d = ap σ (eqb-true v 128 d) ∙ (cc)
    go σ q v false d = refl

pub growing_example : GrowingExample
growing_example = record {
  overlap = record { first_rule = lit< tt; second_rule = lit< tt; inside = lit< tt; no_variable = tt; unifier = μ; unifies = refl; proper = λ z. absurd (omega arith) };
  μ = μ;
  mgu = grown;
  peak_is = refl;
  outer_is = refl;
  inner_is = refl;
}

-- ── at the root ──

-- x ↦ x'
abbrev renaming : Subst
renaming v = cond (eqb v 128) (var 132) (var v)

renamed : IsMgu renaming (f x) (f (var 132))
renamed = record { unifies = refl; general = λ σ q. (σ, λ v. go σ q v (eqb v 128) refl) }
  where
    go : (σ : Subst) → sub σ (f x) ≡ sub σ (f (var 132)) → (v : ℕ) (b : Bool) → eqb v 128 ≡ b → σ v ≡ sub σ (cond b (var 132) (var v))
    go σ q v true d = ap σ (eqb-true v 128 d) ∙ (cc)
    go σ q v false d = refl

pub root_example : RootExample
root_example = record {
  sides = record {
    overlap = record { first_rule = lit< tt; second_rule = lit< tt; inside = lit< tt; no_variable = tt; unifier = renaming; unifies = refl; proper = λ z. lit< tt };
    μ = renaming;
    mgu = renamed;
    peak_is = refl;
    outer_is = refl;
    inner_is = refl;
  };
  not_turned = λ o. omega (arith, o.proper refl);
  not_itself = λ o. omega (arith, o.proper refl);
}

-- ── reduction orders ──

-- what is accessible does not descend to itself
no_loop : {A : Type 0} (R : A → A → Type 0) (a : A) → Acc (λ y x. R x y) a → R a a → ⊥
no_loop R a (Acc.intro b k) r = no_loop R b (k b r) r

pub order_example : OrderExample
order_example = record {
  empty = λ sig. record { contexts = λ C s t o w. o.is_over; substitutions = λ σ k s t o. o.is_over; no_descent = λ t. Acc.intro t (λ u o. absurd o.is_over) };
  all = λ sig order. no_loop (OverOf sig (λ s t. Unit {0})) x (order.no_descent x) (record { from = (lit≤ tt, lit< tt); to = (lit≤ tt, lit< tt); is_over = tt });
}
