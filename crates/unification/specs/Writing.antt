-- Terms written under a substitution.
use Rattle.std.specs.Prelude.{ℕ, ◌<◌, ◌≤◌, List, ◌++◌, length, slice_index, slice_range}
use Rattle.terms.specs.Term.{Subst}
use Rattle.terms.specs.Prefix.{image, expand}

-- the codes of g from the offset `from` up to `to`, under μ
abbrev pub written : Subst → List ℕ → ℕ → ℕ → List ℕ
written μ g from to = expand (image μ) (slice_range g from to)

-- what the variables from the offset `from` up to `to` are bound to has a rank below `bound`
abbrev pub Below : List ℕ → List ℕ → List ℕ → ℕ → ℕ → ℕ → Type 0
Below g rep rank from to bound = (j : ℕ) → from ≤ j → j < to → 128 ≤ slice_index g j → slice_index g (slice_index rep j) < 128 → slice_index rank (slice_index rep j) < bound

-- the codes of g before p, those from q on, and those from r up to s, all under μ
abbrev pub spliced : Subst → List ℕ → ℕ → ℕ → ℕ → ℕ → List ℕ
spliced μ g p q r s = written μ g 0 p ++ (written μ g q (length g) ++ written μ g r s)
