-- Small examples, which show what the definitions mean: each holds of something and fails of something.
-- The symbols are e, f, g and h with the codes 1 to 4; x is the variable 128.
use Rattle.std.specs.Prelude.{◌≡◌, ℕ, List, [], ◌∷◌}
use Rattle.terms.specs.Term.{one, var, node, nil, cons, Term, Rule}
use Rattle.rewriting.specs.Relation.{Joinable, LocallyConfluent, NormalForm, Normal}
use Rattle.rewriting.specs.Rewrite.{Step, InnermostStep, InnermostSteps}
use Rattle.terms.specs.Prefix.{Arities}
use Rattle.rewriting.specs.Order.{ReductionOrder}
use Rattle.rewriting.specs.Unify.{Overlap, CriticalPair, OverlapList}

abbrev pub e : Term
e = node 1 nil

abbrev pub f : Term → Term
f t = node 2 (cons t nil)

abbrev pub g : Term → Term
g t = node 3 (cons t nil)

abbrev pub h : Term → Term → Term
h s t = node 4 (cons s (cons t nil))

abbrev pub x : Term
x = var 128

-- f f x → g x overlaps itself below the root, and only there; the two sides do not join.
abbrev pub self_overlapping : List Rule
self_overlapping = record { left = f (f x); right = g x } ∷ []

pub record SelfOverlapExample : Type 0 where
  pub sole : (i p j : ℕ) → Overlap self_overlapping i p j → (i ≡ 0) × (p ≡ 1) × (j ≡ 0)
  pub list : OverlapList self_overlapping (record { i = 0; p = 1; j = 0 } ∷ [])
  pub sides : CriticalPair self_overlapping 0 1 0 (f (f (f x))) (g (f x)) (f (g x))
  pub no_join : Joinable (Step self_overlapping) (g (f x)) (f (g x)) → ⊥
  pub not_local : LocallyConfluent (Step self_overlapping {k = one}) → ⊥

-- h x x → x and h x (g x) → g x have no overlap: x would have to be g x.
abbrev pub no_overlapping : List Rule
no_overlapping = record { left = h x x; right = x } ∷ (record { left = h x (g x); right = g x } ∷ [])

abbrev pub NoOverlapExample : Type 0
NoOverlapExample = (i p j : ℕ) → Overlap no_overlapping i p j → ⊥

-- f f x → f x on f f f e: the innermost step is at the place 1, and the normal form is f e, after two innermost steps.
abbrev pub idempotent : List Rule
idempotent = record { left = f (f x); right = f x } ∷ []

pub record InnermostExample : Type 0 where
  pub step : InnermostStep idempotent (f (f (f e))) 1 0 (f (f e))
  pub steps : InnermostSteps idempotent 2 (f (f (f e))) (f e)
  pub form : NormalForm (Step idempotent) (f (f (f e))) (f e)
  pub not_normal : Normal (Step idempotent) (f (f e)) → ⊥

-- h x (g x) → x and g (f x) → x overlap at the place 2, and the unifier makes the variable to its left grow: in the peak h (f x) (g (f x)) the part
-- that the second rule matches stands at the place 3.
abbrev pub growing : List Rule
growing = record { left = h x (g x); right = x } ∷ (record { left = g (f x); right = x } ∷ [])

abbrev pub GrowingExample : Type 0
GrowingExample = CriticalPair growing 0 2 1 (h (f x) (g (f x))) (f x) (h (f x) x)

-- f x → g x and f x → x overlap at the root once, with the lower rule first.
abbrev pub at_the_root : List Rule
at_the_root = record { left = f x; right = g x } ∷ (record { left = f x; right = x } ∷ [])

pub record RootExample : Type 0 where
  pub sides : CriticalPair at_the_root 0 0 1 (f x) (g x) x
  pub not_turned : Overlap at_the_root 1 0 0 → ⊥
  pub not_itself : Overlap at_the_root 0 0 0 → ⊥

-- The empty relation is a reduction order, and the relation of all terms is none, since it descends for ever.
pub record OrderExample : Type 0 where
  pub empty : (sig : Arities) → ReductionOrder sig (λ s t. ⊥)
  pub all : (sig : Arities) → ReductionOrder sig (λ s t. Unit {0}) → ⊥
