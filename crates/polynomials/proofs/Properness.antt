-- An interpretation is proper in at most one way.
use Rattle.std.proofs.Common.{ℕ, [], ◌∷◌}
use mathlib.Core.HLevel.{hedberg}
use mathlib.Core.Logic.{∥∥₁_elim}
use native.Mathlib.Bridge.{le_prop}
use native.Mathlib.Decide.{ℕ_discrete}
use Rattle.terms.specs.Prefix.{Arities}
use Rattle.polynomials.specs.Polynomial.{Polynomial, degree}
use Rattle.polynomials.specs.Interpretation.{Interpretation, Positive, ProperFor, Proper}

positive_prop : (p : Polynomial) → IsProp (Positive p)
positive_prop [] a b = λ k. tt
positive_prop (m ∷ p) a b = λ k. (le_prop a.0 b.0 k, positive_prop p a.1 b.1 k)

proper_for_prop : (n : ℕ) (p : Polynomial) → IsProp (ProperFor n p)
proper_for_prop n p a b = λ k. record {
  not_empty = le_prop a.not_empty b.not_empty k;
  factors = positive_prop p a.factors b.factors k;
  present = λ i h. le_prop (a.present i h) (b.present i h) k;
  absent = λ i h. hedberg ℕ_discrete (degree i p) 0 (a.absent i h) (b.absent i h) k;
}

pub proper_held : (sig : Arities) (interpretation : Interpretation) → ∥ Proper sig interpretation ∥₁ → Proper sig interpretation
proper_held sig interpretation held f n e = ∥∥₁_elim held (proper_for_prop n (interpretation f)) (λ proper. proper f n e)
