-- The sides of two rules laid one after the other, the variables of the second made distinct.
use Rattle.std.specs.Prelude.{◌≡◌, ℕ, ◌+◌, List}
use Rattle.terms.specs.Term.{var, nil, cons, Terms, Rule, Subst, size}
use Rattle.terms.specs.Prefix.{Arities, WellSorted, prefix}
use Rattle.rewriting.specs.Unify.{distinct}

-- n added to the number of each variable
abbrev pub moved : ℕ → Subst
moved n x = var (x + n)

-- the two left sides, and behind them the two right sides
abbrev pub sides_of : Rule → Rule → Terms
sides_of first second = cons first.left (cons (distinct second.left) (cons first.right (cons (distinct second.right) nil)))

-- the codes are those sides; the second left side begins at `second_at`, and the right sides at `right-at` and `last-at`
pub record Sides (sig : Arities) (codes : List ℕ) (second_at right_at last_at : ℕ) (first second : Rule) : Type 0 where
  pub sorted : WellSorted sig 8 (sides_of first second)
  pub form : codes ≡ prefix (sides_of first second)
  pub left_long : second_at ≡ size first.left
  pub second_long : right_at ≡ second_at + size (distinct second.left)
  pub right_long : last_at ≡ right_at + size first.right
