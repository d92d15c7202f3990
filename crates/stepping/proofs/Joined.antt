-- The two calls together: a step at the innermost place, by the rule that was found there, is the innermost step. And a step has one result.
use Rattle.std.proofs.Common.{◌≡◌, ℕ, List, Some, Ok, Err, sym, ap, ◌∙◌, subst, ap₂}
use Rattle.terms.specs.Term.{Term, Rule, rule_at, Subst, sub, Occurs}
use Rattle.terms.specs.Prefix.{Arities, Reads}
use Rattle.terms.specs.Place.{plug}
use Rattle.terms.proofs.Reading.{same_bytes_same_term}
use Rattle.terms.proofs.Places.{place_unique}
use Rattle.rewriting.specs.Rewrite.{StepAt, InnermostStep}
use Rattle.rewriting.proofs.Substitution.{sub_cong, sub_agree}
use Rattle.rewriting.proofs.Unification.{occurs?}
use Rattle.stepping.specs.declared.outcome.RewriteFault.TheVariants as fault
use Rattle.stepping.specs.declared.outcome.Redex.{Redex}
use Rattle.stepping.specs.Stepping.{OneStep, Stepped, RewriteAnswer, InnermostBy, InnermostAnswer}

pub innermost_step : (rs : List Rule) (t u : Term) (p k : ℕ) → InnermostBy rs t p k → StepAt rs k p t u → InnermostStep rs t p k u
innermost_step rs t u p k i s = record { innermost = i.innermost; least = i.least; lowest = i.lowest; step = s }

-- what is found is no refusal of the step, and what the step gives is the result of the innermost step
module _ (sig : Arities) (vars : ℕ) (rs : List Rule) (bs : List ℕ) (r : Redex) (found : InnermostAnswer sig vars rs bs (Ok (Some r))) where
  found_at : (t : Term) → Reads sig vars bs t → InnermostBy rs t r.place r.rule
  found_at t reads = subst (λ s. InnermostBy rs s r.place r.rule) (same_bytes_same_term sig vars vars bs found.0 t found.1 reads) found.2

  pub found_term : (page after : List ℕ) → RewriteAnswer sig vars rs bs r.rule r.place page after (Err fault.NoTerm) → ⊥
  found_term page after a = a.0 (found.0, found.1)

  pub found_match : (page after : List ℕ) → RewriteAnswer sig vars rs bs r.rule r.place page after (Err fault.NoMatch) → ⊥
  found_match page after a =
      let i = found_at a.0.0 a.0.1 in
      a.0.2 (record { inside = i.innermost.matched.inside; matches = i.matches })

  pub found_step : (t u : Term) → Stepped sig vars rs bs r.rule r.place t u → InnermostStep rs t r.place r.rule u
  found_step t u s = innermost_step rs t u r.place r.rule (found_at t s.reads) s.step.step

-- a step in which new variables stay themselves is determined by its rule and its place
pub one_result : (rs : List Rule) (t u v : Term) (k p : ℕ) → OneStep rs k p t u → OneStep rs k p t v → u ≡ v
one_result rs t u v k p a b =
    let s = a.step.step in
    let r = b.step.step in
    let l : (n : ℕ) → n ≡ k → (σ : Subst) → sub σ (rule_at rs n).left ≡ sub σ (rule_at rs k).left = λ n e σ. ap (λ i. sub σ (rule_at rs i).left) e in
    let there = place_unique s.context r.context (sub s.instance (rule_at rs s.number).left) (sub r.instance (rule_at rs r.number).left) (sym s.before ∙ r.before) (a.step.place_is ∙ sym b.step.place_is) in
    let agree = sub_agree (rule_at rs k).left s.instance r.instance (sym (l s.number a.step.rule_is s.instance) ∙ there.1 ∙ l r.number b.step.rule_is r.instance) in
    s.becomes
    ∙ ap (λ i. plug s.context (sub s.instance (rule_at rs i).right)) a.step.rule_is
    ∙ ap₂ plug there.0 (sub_cong (rule_at rs k).right s.instance r.instance (λ x o. same x (occurs? x (rule_at rs k).left) agree))
    ∙ ap (λ i. plug r.context (sub r.instance (rule_at rs i).right)) (sym b.step.rule_is)
    ∙ sym r.becomes
  where
    same : (x : ℕ) → Dec (Occurs x (rule_at rs k).left) → ((y : ℕ) → Occurs y (rule_at rs k).left → a.step.step.instance y ≡ b.step.step.instance y) → a.step.step.instance x ≡ b.step.step.instance x
    same x (yes o) agree = agree x o
    same x (no d) agree = a.stays x d ∙ sym (b.stays x d)
