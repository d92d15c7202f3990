-- What every order promises.
use Rattle.std.specs.Prelude.{◌≡◌, ℕ, List, ◌≢◌}
use Rattle.terms.specs.Term.{Term}
use Rattle.terms.specs.Prefix.{Arities, Reads}
use Rattle.rewriting.specs.Order.{ReductionOrder}
use Rattle.book.specs.Questions.{IsSide}

-- The laws of an order with a signature, a grade for each two byte strings, and the relation over on terms.
pub record OrderLaws (sig : Arities) (grade : List ℕ → List ℕ → ℕ) (over : Term → Term → Type 0) : Type 0 where
  -- grade 8 is given where one of the two is no side of a rule (1 to 32 bytes that are one term of the signature with the variables 80 to 83)
  pub malformed : (bs cs : List ℕ) → (IsSide sig bs × IsSide sig cs → ⊥) → grade bs cs ≡ 8
  -- and in no other case
  pub well_formed : (bs cs : List ℕ) → IsSide sig bs → IsSide sig cs → grade bs cs ≢ 8
  -- a pair of grade 0 is in over
  pub graded_over : (bs cs : List ℕ) (s t : Term) → Reads sig 4 bs s → Reads sig 4 cs t → grade bs cs ≡ 0 → over s t
  -- over is passed on by contexts and by substitutions, and has no endless descent
  pub reduction : ReductionOrder sig over
