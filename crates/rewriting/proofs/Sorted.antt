-- The terms of a signature are closed under rewriting.
use Rattle.std.proofs.Common.{◌≡◌, ℕ, ◌+◌, List, Some, Option, sym, refl, ap, ◌∙◌, subst, inl, inr}
use Rattle.terms.specs.Term.{Kind, one, many, Tree, var, node, nil, cons, Term, Terms, Rule, rule_at, Subst, sub, Occurs, how_many}
use Rattle.terms.specs.Prefix.{Arities, WellSorted}
use Rattle.terms.specs.Place.{Context, hole, under, head, tail, plug}
use Rattle.terms.proofs.Parts.{sorted_part}
use Rattle.rewriting.specs.Relation.{Star, done, step, LocallyConfluent}
use Rattle.rewriting.specs.Rewrite.{Step, StepOf, Proper, RulesOf}

-- a substitution, and another term in the hole, leave the number of arguments as it is
pub many_sub : (σ : Subst) (ts : Terms) → how_many (sub σ ts) ≡ how_many ts
many_sub σ nil = refl
many_sub σ (cons t ts) = ap (λ n. 1 + n) (many_sub σ ts)

many_plug : (C : Context many) (s t : Term) → how_many (plug C s) ≡ how_many (plug C t)
many_plug (head C ts) s t = refl
many_plug (tail u C) s t = ap (λ n. 1 + n) (many_plug C s t)

module _ (sig : Arities) (m n : ℕ) where
  -- an instance is well-sorted, if the pattern is, and the terms for its variables are
  pub sorted_sub : {k : Kind} (σ : Subst) (t : Tree k) → WellSorted sig m t → ((x : ℕ) → Occurs x t → WellSorted sig n (σ x)) → WellSorted sig n (sub σ t)
  sorted_sub σ (var x) w h = h x refl
  sorted_sub σ (node f ts) w h = (w.0, w.1 ∙ ap {B = Option ℕ} Some (sym (many_sub σ ts)), sorted_sub σ ts w.2 h)
  sorted_sub σ nil w h = tt
  sorted_sub σ (cons t ts) w h = (sorted_sub σ t w.0 (λ x o. h x (inl o)), sorted_sub σ ts w.1 (λ x o. h x (inr o)))

module _ (sig : Arities) (n : ℕ) where
  -- of a well-sorted instance, the terms for the variables are well-sorted
  pub sorted_var : {k : Kind} (σ : Subst) (t : Tree k) → WellSorted sig n (sub σ t) → (x : ℕ) → Occurs x t → WellSorted sig n (σ x)
  sorted_var σ (var y) w x o = subst (λ z. WellSorted sig n (σ z)) (sym o) w
  sorted_var σ (node f ts) w x o = sorted_var σ ts w.2 x o
  sorted_var σ nil w x o = absurd o
  sorted_var σ (cons t ts) w x (inl o) = sorted_var σ t w.0 x o
  sorted_var σ (cons t ts) w x (inr o) = sorted_var σ ts w.1 x o

  -- another well-sorted term in the hole
  pub sorted_plug : {k : Kind} (C : Context k) (s t : Term) → WellSorted sig n (plug C s) → WellSorted sig n t → WellSorted sig n (plug C t)
  sorted_plug hole s t w v = v
  sorted_plug (under f C) s t w v = (w.0, w.1 ∙ ap {B = Option ℕ} Some (many_plug C s t), sorted_plug C s t w.2 v)
  sorted_plug (head C ts) s t w v = (sorted_plug C s t w.0 v, w.1)
  sorted_plug (tail u C) s t w v = (w.0, sorted_plug C s t w.1 v)

  module _ (m : ℕ) (rs : List Rule) (rules : RulesOf sig m rs) (proper : Proper rs) where
    pub sorted_step : {t u : Term} → Step rs t u → WellSorted sig n t → WellSorted sig n u
    sorted_step s w =
        let C = s.context in
        let σ = s.instance in
        let r = rule_at rs s.number in
        let whole = subst (WellSorted sig n) s.before w in
        let l = sorted_part sig n C (sub σ r.left) whole in
        subst (WellSorted sig n) (sym s.becomes)
        (sorted_plug C (sub σ r.left) (sub σ r.right) whole
        (sorted_sub sig m n σ r.right (rules s.number s.is_rule).1 (λ x o. sorted_var σ r.left l x ((proper s.number s.is_rule).1 x o))))

    pub sorted_star : {t u : Term} → Star (Step rs) t u → WellSorted sig n t → WellSorted sig n u
    sorted_star done w = w
    sorted_star (step s r) w = sorted_star r (sorted_step s w)

    -- steps from a term of the signature are steps of the signature
    pub step_of : {t u : Term} → Step rs t u → WellSorted sig n t → StepOf sig n rs t u
    step_of s w = record { from = w; to = sorted_step s w; step = s }

    pub star_of : {t u : Term} → Star (Step rs) t u → WellSorted sig n t → Star (StepOf sig n rs) t u
    star_of done w = done
    star_of (step s r) w = step (step_of s w) (star_of r (sorted_step s w))

    pub local_of : LocallyConfluent (Step rs {k = one}) → LocallyConfluent (StepOf sig n rs)
    local_of local x y z a b =
        let j = local x y z a.step b.step in
        (j.0, star_of j.1 a.to, star_of j.2 b.to)

  -- and a step of the signature is a step
  pub star_out : {rs : List Rule} {t u : Term} → Star (StepOf sig n rs) t u → Star (Step rs) t u
  star_out done = done
  star_out (step s r) = step s.step (star_out r)
