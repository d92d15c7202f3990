-- Reduction orders.
use Rattle.std.specs.Prelude.{ℕ, ◌<◌, ◌≤◌, List, length}
use mathlib.Core.WellFounded.{Acc}
use Rattle.terms.specs.Term.{one, Term, Rule, rule_at, Subst, sub}
use Rattle.terms.specs.Prefix.{Arities, WellSorted}
use Rattle.terms.specs.Place.{Context, plug}

-- The relation over, between terms of the signature with the eight variables from 128 on.
pub record OverOf (sig : Arities) (over : Term → Term → Type 0) (t u : Term) : Type 0 where
  pub from : WellSorted sig 8 t
  pub to : WellSorted sig 8 u
  pub is_over : over t u

-- a substitution of the signature
abbrev pub SubstOf : Arities → Subst → Type 0
SubstOf sig σ = (x : ℕ) → 128 ≤ x → x < 136 → WellSorted sig 8 (σ x)

-- A reduction order on the terms of a signature: it is passed on by the contexts and the substitutions of the signature, and has no endless descent.
pub record ReductionOrder (sig : Arities) (over : Term → Term → Type 0) : Type 0 where
  pub contexts : (C : Context one) (s t : Term) → OverOf sig over s t → WellSorted sig 8 (plug C s) → over (plug C s) (plug C t)
  pub substitutions : (σ : Subst) → SubstOf sig σ → (s t : Term) → OverOf sig over s t → over (sub σ s) (sub σ t)
  pub no_descent : (t : Term) → Acc (λ u t. OverOf sig over t u) t

-- the left side of each rule is over its right side
abbrev pub Oriented : (Term → Term → Type 0) → List Rule → Type 0
Oriented over rs = (i : ℕ) → i < length rs → over (rule_at rs i).left (rule_at rs i).right
