-- Rewriting is closed under contexts and substitutions.
use Rattle.std.proofs.Common.{◌≡◌, ℕ, ◌<◌, List, length, refl, ap, ◌∙◌}
use Rattle.rewriting.specs.Relation.{Star, done, step, Joinable}
use Rattle.terms.specs.Term.{Kind, Tree, var, node, nil, cons, Term, Terms, Rule, rule_at, Subst, sub, after}
use Rattle.terms.specs.Place.{Context, hole, under, head, tail, plug, sub_context}
use Rattle.rewriting.specs.Rewrite.{Step}
use Rattle.rewriting.proofs.Abstract.{append}
use Rattle.rewriting.proofs.Substitution.{sub_sub, sub_plug}

-- a map that takes steps to steps takes runs to runs, and joins to joins
module _ {A B : Type 0} {R : A → A → Type 0} {S : B → B → Type 0} (f : A → B) (keeps : (x y : A) → R x y → S (f x) (f y)) where
  pub star_map : {x y : A} → Star R x y → Star S (f x) (f y)
  star_map done = done
  star_map (step {x = x} {y = y} r s) = step (keeps x y r) (star_map s)

  pub join_map : {x y : A} → Joinable R x y → Joinable S (f x) (f y)
  join_map j = (f j.0, star_map j.1, star_map j.2)

module _ {rs : List Rule} where
  -- a step in an argument is a step of the whole
  pub step_node : {f : ℕ} {ts us : Terms} → Step rs ts us → Step rs (node f ts) (node f us)
  step_node {f} s =
      record { number = s.number; is_rule = s.is_rule; context = under f s.context; instance = s.instance; before = ap (node f) s.before; becomes = ap (node f) s.becomes }

  pub step_head : {ts : Terms} {t u : Term} → Step rs t u → Step rs (cons t ts) (cons u ts)
  step_head {ts} s =
      record { number = s.number; is_rule = s.is_rule; context = head s.context ts; instance = s.instance; before = ap (λ t. cons t ts) s.before; becomes = ap (λ t. cons t ts) s.becomes }

  pub step_tail : {t : Term} {ts us : Terms} → Step rs ts us → Step rs (cons t ts) (cons t us)
  step_tail {t} s =
      record { number = s.number; is_rule = s.is_rule; context = tail t s.context; instance = s.instance; before = ap (cons t) s.before; becomes = ap (cons t) s.becomes }

  -- closed under contexts
  pub step_plug : {k : Kind} (C : Context k) {t u : Term} → Step rs t u → Step rs (plug C t) (plug C u)
  step_plug hole s = s
  step_plug (under f C) s = step_node (step_plug C s)
  step_plug (head C ts) s = step_head (step_plug C s)
  step_plug (tail t C) s = step_tail (step_plug C s)

  -- closed under substitutions
  pub step_sub : {k : Kind} (δ : Subst) {t u : Tree k} → Step rs t u → Step rs (sub δ t) (sub δ u)
  step_sub δ s =
      let moved : (p : Term) → sub δ (plug s.context (sub s.instance p)) ≡ plug (sub_context δ s.context) (sub (after δ s.instance) p)
      = λ p. sub_plug δ s.context (sub s.instance p) ∙ ap (plug (sub_context δ s.context)) (sub_sub δ s.instance p) in
      record {
        number = s.number;
        is_rule = s.is_rule;
        context = sub_context δ s.context;
        instance = after δ s.instance;
        before = ap (sub δ) s.before ∙ moved (rule_at rs s.number).left;
        becomes = ap (sub δ) s.becomes ∙ moved (rule_at rs s.number).right;
      }

  pub star_plug : {k : Kind} (C : Context k) {t u : Term} → Star (Step rs) t u → Star (Step rs) (plug C t) (plug C u)
  star_plug C s = star_map (plug C) (λ x y r. step_plug C r) s

  pub star_sub : {k : Kind} (δ : Subst) {t u : Tree k} → Star (Step rs) t u → Star (Step rs) (sub δ t) (sub δ u)
  star_sub δ s = star_map (sub δ) (λ x y r. step_sub δ r) s

  pub join_sub : {k : Kind} (δ : Subst) {t u : Tree k} → Joinable (Step rs) t u → Joinable (Step rs) (sub δ t) (sub δ u)
  join_sub δ j = join_map (sub δ) (λ x y r. step_sub δ r) j

  -- both parts of a list of arguments are rewritten
  pub star_cons : {t u : Term} {ts us : Terms} → Star (Step rs) t u → Star (Step rs) ts us → Star (Step rs) (cons t ts) (cons u us)
  star_cons {t} {u} {ts} {us} s v =
      append (star_map (λ x. cons x ts) (λ x y r. step_head r) s) (star_map (cons u) (λ x y r. step_tail r) v)

  -- where each σ x is rewritten to τ x, the instance of t by σ is rewritten to the one by τ
  pub sub_star : {k : Kind} (t : Tree k) {σ τ : Subst} → ((x : ℕ) → Star (Step rs) (σ x) (τ x)) → Star (Step rs) (sub σ t) (sub τ t)
  sub_star (var x) h = h x
  sub_star (node f ts) h = star_map (node f) (λ x y r. step_node r) (sub_star ts h)
  sub_star nil h = done
  sub_star (cons t ts) h = star_cons (sub_star t h) (sub_star ts h)

  -- a rule, applied at the root
  pub step_root : (i : ℕ) → i < length rs → (σ : Subst) → Step rs (sub σ (rule_at rs i).left) (sub σ (rule_at rs i).right)
  step_root i h σ = record { number = i; is_rule = h; context = hole; instance = σ; before = refl; becomes = refl }
