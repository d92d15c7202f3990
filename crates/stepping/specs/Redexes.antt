-- Where rules match in a term.
use Rattle.std.specs.Prelude.{◌≡◌, ℕ, ◌<◌, List, Some, None, Option}
use Rattle.terms.specs.Term.{Term, Rule, size}
use Rattle.terms.specs.Place.{part}
use Rattle.rewriting.specs.Rewrite.{Matches, MatchedAt}
use Rattle.stepping.specs.declared.outcome.Redex.{Redex}
use Rattle.stepping.specs.declared.search.Candidate.{Candidate}
use Rattle.stepping.specs.Stepping.{InnermostBy}

-- the lowest rule that matches the part of t at the place p, with the part's size
pub record LowestAt (rs : List Rule) (t : Term) (p : ℕ) (c : Candidate) : Type 0 where
  pub place_is : c.redex.place ≡ p
  pub len_is : c.len ≡ size (part t p)
  pub matches : Matches rs c.redex.rule (part t p)
  pub lowest : (j : ℕ) → j < c.redex.rule → Matches rs j (part t p) → ⊥

-- what is found at the place p: None if no rule matches there
abbrev pub FoundThere : List Rule → Term → ℕ → Option Candidate → Type 0
FoundThere rs t p (Some c) = LowestAt rs t p c
FoundThere rs t p None = (k : ℕ) → Matches rs k (part t p) → ⊥

-- what is found in the whole: None if no rule matches anywhere
abbrev pub FoundInnermost : List Rule → Term → Option Redex → Type 0
FoundInnermost rs t (Some r) = InnermostBy rs t r.place r.rule
FoundInnermost rs t None = (p : ℕ) → MatchedAt rs t p → ⊥
