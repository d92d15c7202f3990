-- The overlaps of a book's rules, one after the other, and how they join within the limits.
use Rattle.std.specs.Prelude.{◌≡◌, ℕ, ◌+◌, ◌*◌, ◌≤◌, List, [], ◌∷◌, length, Some, None, Option}
use Rattle.terms.specs.Term.{Term, Rule, size}
use Rattle.rewriting.specs.Rewrite.{Step, StepAt}
use Rattle.rewriting.specs.Unify.{Overlap, CriticalPair, Before}
use Rattle.rewriting.specs.Unify as unify
use Rattle.judge.specs.declared.triple.Triple.{Triple}

-- a triple of the program as one of the theory
abbrev pub named : Triple → unify.Triple
named t = record { i = t.i; p = t.p; j = t.j }

-- the triple names an overlap
abbrev pub IsOverlap : List Rule → Triple → Type 0
IsOverlap rs t = Overlap rs t.i t.p t.j

-- it comes behind the one opened last, if any
abbrev pub Behind : Option Triple → Triple → Type 0
Behind None t = Unit {0}
Behind (Some a) t = Before (named a) (named t)

-- the next overlap behind the one opened last: the least in the sequence of i, p and j
pub record NextOverlap (rs : List Rule) (last : Option Triple) (t : Triple) : Type 0 where
  pub overlap : IsOverlap rs t
  pub behind : Behind last t
  pub least : (u : Triple) → IsOverlap rs u → Behind last u → Before (named u) (named t) → ⊥

-- no overlap is left
abbrev pub NoneLeft : List Rule → Option Triple → Type 0
NoneLeft rs last = (u : Triple) → IsOverlap rs u → Behind last u → ⊥

-- ── the limits ──

-- the most symbols of a peak, of a side and of each term on the way, and the most steps of a side
abbrev pub most_symbols : ℕ
most_symbols = 255

abbrev pub most_steps : ℕ
most_steps = 64

-- the peak and the sides of an overlap are within the limit
pub record Fits (rs : List Rule) (t : Triple) (peak outer inner : Term) : Type 0 where
  pub pair : CriticalPair rs t.i t.p t.j peak outer inner
  pub peak_fits : size peak ≤ most_symbols
  pub outer_fits : size outer ≤ most_symbols
  pub inner_fits : size inner ≤ most_symbols

abbrev pub OverlapFits : List Rule → Triple → Type 0
OverlapFits rs t = (peak : Term) × (outer : Term) × (inner : Term) × Fits rs t peak outer inner

-- n steps lead from t to u, and no term that they make is beyond the limit
pub data StepsWithin (rs : List Rule) : ℕ → Term → Term → Type 0 where
  none : {t : Term} → StepsWithin rs 0 t t
  more : {n : ℕ} {t u v : Term} → Step rs t u → size u ≤ most_symbols → StepsWithin rs n u v → StepsWithin rs (1 + n) t v

-- an overlap joins within the limits
pub record JoinsWithin (rs : List Rule) (t : Triple) : Type 0 where
  pub peak : Term
  pub outer : Term
  pub inner : Term
  pub fits : Fits rs t peak outer inner
  pub end : Term
  pub outer_steps : ℕ
  pub inner_steps : ℕ
  pub few_outer : outer_steps ≤ most_steps
  pub few_inner : inner_steps ≤ most_steps
  pub outer_joins : StepsWithin rs outer_steps outer end
  pub inner_joins : StepsWithin rs inner_steps inner end

-- ── steps that are told ──

-- Steps told by bytes, a rule and a place for each: they lead from t to u within the limit.
abbrev pub Leads : List Rule → List ℕ → Term → Term → Type 0
Leads rs [] t u = t ≡ u
Leads rs (k ∷ []) t u = ⊥
Leads rs (k ∷ (p ∷ steps)) t u = (v : Term) × StepAt rs k p t v × (size v ≤ most_symbols) × Leads rs steps v u

-- a list of steps may be told: an even number of bytes, two for each step
abbrev pub ListFits : List ℕ → Type 0
ListFits steps = (half : ℕ) × (length steps ≡ 2 * half) × (half ≤ most_steps)
