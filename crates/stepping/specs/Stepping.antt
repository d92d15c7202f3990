-- What the calls answer: of a step of a rule at a place, and of the innermost step.
use Rattle.std.specs.Prelude.{◌≡◌, ℕ, ◌<◌, ◌≤◌, ◌⊎◌, List, ◌++◌, length, drop, Some, None, Option, Ok, Err, Result}
use Rattle.terms.specs.Term.{var, Term, Rule, rule_at, Occurs, size}
use Rattle.terms.specs.Prefix.{Arities, prefix, WellSorted, Reads, IsTerm}
use Rattle.terms.specs.Place.{part}
use Rattle.rewriting.specs.Relation.{Normal}
use Rattle.rewriting.specs.Rewrite.{Matches, Step, StepAt, MatchedAt, InnermostAt}
use Rattle.stepping.specs.declared.outcome.RewriteFault.{RewriteFault}
use Rattle.stepping.specs.declared.outcome.RewriteFault.TheVariants as fault
use Rattle.stepping.specs.declared.outcome.NotATerm.{NotATerm}
use Rattle.stepping.specs.declared.outcome.Redex.{Redex}

-- the rule k matches the part of t at the place p
pub record MatchedBy (rs : List Rule) (k : ℕ) (t : Term) (p : ℕ) : Type 0 where
  pub inside : p < size t
  pub matches : Matches rs k (part t p)

-- The step of the rule k at the place p of t in which a variable of the right side that the left side lacks stays itself: there is one at most.
pub record OneStep (rs : List Rule) (k p : ℕ) (t u : Term) : Type 0 where
  pub step : StepAt rs k p t u
  pub stays : (x : ℕ) → (Occurs x (rule_at rs k).left → ⊥) → step.step.instance x ≡ var x

-- no variable of the right side of the rule k is new
abbrev pub NothingNew : List Rule → ℕ → Type 0
NothingNew rs k = (x : ℕ) → Occurs x (rule_at rs k).right → Occurs x (rule_at rs k).left

-- The innermost step of t is at the place p, by the rule k.
pub record InnermostBy (rs : List Rule) (t : Term) (p k : ℕ) : Type 0 where
  pub innermost : InnermostAt rs t p
  pub least : (q : ℕ) → q < p → InnermostAt rs t q → ⊥
  pub matches : Matches rs k (part t p)
  pub lowest : (j : ℕ) → j < k → Matches rs j (part t p) → ⊥

module _ (sig : Arities) (vars : ℕ) (rs : List Rule) (bs : List ℕ) where
  -- The bytes read as t, which the rule k takes to u at the place p. Again u is a term of the signature with the first `vars` variables, if these are
  -- all four of rules or if the rule has no new ones.
  pub record Stepped (k p : ℕ) (t u : Term) : Type 0 where
    pub reads : Reads sig vars bs t
    pub step : OneStep rs k p t u
    pub sorted : (4 ≤ vars) ⊎ NothingNew rs k → WellSorted sig vars u

  -- a step of the rule k at the place p of the term that the bytes are: what the answer says, and what the page holds after
  abbrev pub RewriteAnswer : ℕ → ℕ → List ℕ → List ℕ → Result ℕ RewriteFault → Type 0
  RewriteAnswer k p page after (Err fault.NoTerm) = (IsTerm sig vars bs → ⊥) × (after ≡ page)
  RewriteAnswer k p page after (Err fault.NoMatch) = ((t : Term) × Reads sig vars bs t × (MatchedBy rs k t p → ⊥)) × (after ≡ page)
  RewriteAnswer k p page after (Err fault.NoRoom) = ((t : Term) × (u : Term) × Stepped k p t u × (length page < size u)) × (after ≡ page)
  RewriteAnswer k p page after (Ok n) =
      (t : Term) × (u : Term) × Stepped k p t u × (n ≡ size u) × (n ≤ length page) × (after ≡ prefix u ++ drop n page)

  -- the innermost step of the term that the bytes are; None if the term is a normal form
  abbrev pub InnermostAnswer : Result (Option Redex) NotATerm → Type 0
  InnermostAnswer (Err _) = IsTerm sig vars bs → ⊥
  InnermostAnswer (Ok None) = (t : Term) × Reads sig vars bs t × ((p : ℕ) → MatchedAt rs t p → ⊥) × Normal (Step rs) t
  InnermostAnswer (Ok (Some r)) = (t : Term) × Reads sig vars bs t × InnermostBy rs t r.place r.rule
