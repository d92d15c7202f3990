use Rattle.std.proofs.Common.{◌≡◌, ℕ, ◌+◌, ◌<◌, [], ◌∷◌, length, get_or}
use Rattle.polynomials.specs.Polynomial.{Polynomial, coefficient, compose}
use Rattle.polynomials.specs.Cells.{exponents_at, MonomialRoom, Each, ComposeRoom}
use Rattle.polynomials.specs.Tables.{HoldThree}
use Rattle.polynomials.specs.Coding.{polynomial_from}
use Rattle.polynomials.proofs.shifted.compose_tables.Given as goal

abbrev pub invariant-loop-monomial : goal.invariant-loop-monomial
invariant-loop-monomial l =
    (length l.sum.cells ≡ 256)
    × ((p q s : Polynomial) → HoldThree l.tables p q s → ComposeRoom (polynomial_from l.monomials) p q s
    → Each (λ m. MonomialRoom m p q s) (polynomial_from l.monomial-iterator.bytes.now)
    × ((j : ℕ) → j < 256 → get_or l.sum.cells j 0 + coefficient (compose (polynomial_from l.monomial-iterator.bytes.now) (p ∷ q ∷ s ∷ [])) (exponents_at j) ≡ coefficient (compose (polynomial_from l.monomials) (p ∷ q ∷ s ∷ [])) (exponents_at j)))
