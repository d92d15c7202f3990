-- Small examples: each definition of orders holds of something and fails of something. The symbols are f and g with the codes 2 and 3, and one argument.
use Rattle.std.specs.Prelude.{◌≡◌, ℕ, cond, List, [], ◌∷◌, ◌==◌}
use Rattle.terms.specs.Term.{var}
use Rattle.polynomials.specs.Examples.{f, g, x, doubled_arities, doubling}
use Rattle.order_theory.specs.Path.{Greater}
use Rattle.order_theory.specs.Grade.{grade_of_bytes, path_grade, polynomial_grade}
use Rattle.order_theory.specs.Laws.{OrderLaws}
use Rattle.order_theory.specs.Fence.{ProperPair, fence_grade}

-- f has rank 2 and g has rank 1
abbrev pub ranks : ℕ → ℕ
ranks c = cond (c == 2) 2 (cond (c == 3) 1 0)

-- the bytes of f f x, g g x, g x and f y
abbrev pub ffx : List ℕ
ffx = 2 ∷ (2 ∷ (128 ∷ []))

abbrev pub ggx : List ℕ
ggx = 3 ∷ (3 ∷ (128 ∷ []))

abbrev pub gx : List ℕ
gx = 3 ∷ (128 ∷ [])

abbrev pub fy : List ℕ
fy = 2 ∷ (129 ∷ [])

pub record OrdersHoldAndFail : Type 0 where
  -- greater by the path order, and not
  pub greater : Greater ranks (f (f x)) (g (g x))
  pub not_greater : Greater ranks (g (g x)) (f (f x)) → ⊥
  -- each grade of the path order
  pub path_zero : path_grade doubled_arities ranks ffx ggx ≡ 0
  pub path_one : path_grade doubled_arities ranks ggx ffx ≡ 1
  pub path_eight : path_grade doubled_arities ranks (2 ∷ []) ggx ≡ 8
  -- f = 2 X + 1 and g = 2 X
  pub polynomial_zero : polynomial_grade doubled_arities doubling ffx ggx ≡ 0
  pub polynomial_one : polynomial_grade doubled_arities doubling ggx ffx ≡ 1
  pub polynomial_eight : polynomial_grade doubled_arities doubling ffx [] ≡ 8
  -- a pair that may be a rule's; a variable on the left; a new variable on the right
  pub proper : ProperPair (f x) (g x)
  pub variable_left : ProperPair x x → ⊥
  pub new_variable : ProperPair (g x) (f (var 129)) → ⊥
  pub fence_zero : fence_grade (path_grade doubled_arities ranks) ffx ggx ≡ 0
  pub fence_nine : fence_grade (path_grade doubled_arities ranks) gx fy ≡ 9
  pub fence_eight : fence_grade (path_grade doubled_arities ranks) (128 ∷ []) (2 ∷ []) ≡ 8
  -- the laws hold of the path order; not if every pair graded 0, every pair 1, or every pair of sides 0
  pub laws : OrderLaws doubled_arities (path_grade doubled_arities ranks) (Greater ranks)
  pub every_pair_zero : OrderLaws doubled_arities (λ bs cs. 0) (Greater ranks) → ⊥
  pub every_pair_one : OrderLaws doubled_arities (λ bs cs. 1) (Greater ranks) → ⊥
  pub all_sides_zero : OrderLaws doubled_arities (grade_of_bytes doubled_arities (λ s t. 0)) (Greater ranks) → ⊥
