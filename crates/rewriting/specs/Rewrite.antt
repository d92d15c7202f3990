-- Rewriting with a list of rules, which are numbered from 0.
use Rattle.std.specs.Prelude.{◌≡◌, ℕ, ◌+◌, ◌<◌, List, length}
use Rattle.terms.specs.Term.{Kind, Tree, Term, Rule, rule_at, Subst, sub, Occurs, IsNode, size}
use Rattle.terms.specs.Prefix.{Arities, WellSorted}
use Rattle.terms.specs.Place.{Context, plug, place, part}

-- the rule k matches the term t: t is an instance of its left side
pub record Matches (rs : List Rule) (k : ℕ) (t : Term) : Type 0 where
  pub is_rule : k < length rs
  pub instance : Subst
  pub is : t ≡ sub instance (rule_at rs k).left

-- One rewrite step: an instance of a left side, in some context, becomes the same instance of the right side.
-- (The whole may also be a list of terms, as the arguments of a symbol are.)
pub record Step (rs : List Rule) {k : Kind} (t u : Tree k) : Type 0 where
  pub number : ℕ
  pub is_rule : number < length rs
  pub context : Context k
  pub instance : Subst
  pub before : t ≡ plug context (sub instance (rule_at rs number).left)
  pub becomes : u ≡ plug context (sub instance (rule_at rs number).right)

-- a step of the rule k at the place p
pub record StepAt (rs : List Rule) (k p : ℕ) (t u : Term) : Type 0 where
  pub step : Step rs t u
  pub rule_is : step.number ≡ k
  pub place_is : place step.context ≡ p

-- What rewriting asks of rules: a left side is no variable, and no variable of a right side is new.
abbrev pub Proper : List Rule → Type 0
Proper rs = (i : ℕ) → i < length rs → IsNode (rule_at rs i).left × ((x : ℕ) → Occurs x (rule_at rs i).right → Occurs x (rule_at rs i).left)

-- the sides of all rules are terms of a signature with the first `vars` variables
abbrev pub RulesOf : Arities → ℕ → List Rule → Type 0
RulesOf sig vars rs = (i : ℕ) → i < length rs → WellSorted sig vars (rule_at rs i).left × WellSorted sig vars (rule_at rs i).right

-- a step between terms of a signature with the first `vars` variables
pub record StepOf (sig : Arities) (vars : ℕ) (rs : List Rule) (t u : Term) : Type 0 where
  pub from : WellSorted sig vars t
  pub to : WellSorted sig vars u
  pub step : Step rs t u

-- ── innermost steps ──

-- some rule matches the part of t at the place p
pub record MatchedAt (rs : List Rule) (t : Term) (p : ℕ) : Type 0 where
  pub inside : p < size t
  pub rule : ℕ
  pub matches : Matches rs rule (part t p)

-- and none matches further inside of that part
pub record InnermostAt (rs : List Rule) (t : Term) (p : ℕ) : Type 0 where
  pub matched : MatchedAt rs t p
  pub none_inside : (q : ℕ) → p < q → q < p + size (part t p) → MatchedAt rs t q → ⊥

-- The innermost step is at the least such place, by the lowest rule that matches there.
pub record InnermostStep (rs : List Rule) (t : Term) (p k : ℕ) (u : Term) : Type 0 where
  pub innermost : InnermostAt rs t p
  pub least : (q : ℕ) → q < p → InnermostAt rs t q → ⊥
  pub lowest : (j : ℕ) → j < k → Matches rs j (part t p) → ⊥
  pub step : StepAt rs k p t u

-- n innermost steps
pub data InnermostSteps (rs : List Rule) : ℕ → Term → Term → Type 0 where
  none : {t : Term} → InnermostSteps rs 0 t t
  more : {n : ℕ} {t u v : Term} {p k : ℕ} → InnermostStep rs t p k u → InnermostSteps rs n u v → InnermostSteps rs (1 + n) t v
