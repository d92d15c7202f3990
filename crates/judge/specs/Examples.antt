-- Small examples: rules that fall under an order, and rules that do not. The symbols are f and g with the codes 2 and 3, and one argument; f has the rank 2, g the rank 1.
use Rattle.std.specs.Prelude.{List, [], ◌∷◌, None}
use Rattle.terms.specs.Term.{Rule}
use Rattle.polynomials.specs.Examples.{f, g, x, doubled_arities}
use Rattle.order_theory.specs.Grade.{path_grade}
use Rattle.order_theory.specs.Examples.{ranks}
use Rattle.judge.specs.declared.orient_fault.OrientFault.TheVariants.{OtherSignature, NotOver}
use Rattle.judge.specs.Orient.{SameSignature, Falls, OrientRefused}

-- f f x → g g x, and behind it g x → f x
abbrev pub falling : List Rule
falling = record { left = f (f x); right = g (g x) } ∷ []

abbrev pub rising : List Rule
rising = record { left = f (f x); right = g (g x) } ∷ (record { left = g x; right = f x } ∷ [])

pub record OrientingHoldsAndFails : Type 0 where
  pub falls : Falls doubled_arities (path_grade doubled_arities ranks) doubled_arities falling
  pub rises : Falls doubled_arities (path_grade doubled_arities ranks) doubled_arities rising → ⊥
  -- the second rule has the grade 1, and the order's kind is 2
  pub refused : OrientRefused doubled_arities (path_grade doubled_arities ranks) 2 doubled_arities rising (NotOver 1 2 1)
  pub not_refused : OrientRefused doubled_arities (path_grade doubled_arities ranks) 2 doubled_arities falling (NotOver 0 2 1) → ⊥
  pub other_signature : OrientRefused (λ c. None) (path_grade (λ c. None) ranks) 2 doubled_arities falling OtherSignature
  pub same_signature : SameSignature doubled_arities doubled_arities
