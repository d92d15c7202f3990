-- Tables and the polynomials that they hold.
use Rattle.std.proofs.Common.{◌≡◌, ℕ, zero, suc, ◌^◌, ◌<◌, true, false, List, [], length, get_or, set, replicate, sym, ap, ◌∙◌, inl, inr, mul-zero, mul-one, arith, get_or-set_other, get_or-set_same}
use Rattle.std.proofs.lemmas.List.{get_or-replicate, length-replicate, length-set}
use Rattle.std.proofs.lemmas.Bool.{cases_eq, cases_Bool}
use Rattle.polynomials.specs.Polynomial.{Polynomial, same, coefficient, monomial, constant, sum}
use Rattle.polynomials.specs.Cells.{exponents_at, cell, Holds}
use Rattle.polynomials.proofs.Cells.{same_true, same_refl, cell_at}

-- two cells have different exponents
pub other_cell : (i k : ℕ) → i < 256 → k < 256 → (k ≡ i → ⊥) → same (exponents_at i) (exponents_at k) ≡ false
other_cell i k hi hk ne =
    elim (cases_Bool (same (exponents_at i) (exponents_at k))) [
      | inl t ↦ absurd (ne (sym (cell_at k hk) ∙ ap cell (sym (same_true (exponents_at i) (exponents_at k) t)) ∙ cell_at i hi))
      | inr f ↦ f
    ]

pub holds_zero : (n : ℕ) → n ≡ 256 → Holds (replicate n 0) []
holds_zero n full = record { full = length-replicate n 0 ∙ full; each = λ k h. get_or-replicate n k 0 0 (omega arith) }

-- a number in an empty cell adds a monomial
pub holds_put : (cells : List ℕ) (p : Polynomial) (i v : ℕ) → i < 256 → Holds cells p → get_or cells i 0 ≡ 0 →
    Holds (set cells i v) (sum (monomial v (exponents_at i)) p)
holds_put cells p i v hi holds empty = record { full = simp length-set holds.full; each = at }
  where
    at : (k : ℕ) → k < 256 → get_or (set cells i v) k 0 ≡ coefficient (sum (monomial v (exponents_at i)) p) (exponents_at k)
    at k h =
        elim (cases_eq k i) [
          | inl e ↦
              let lt : i < length cells = let l = holds.full in omega arith in
              let a : get_or (set cells i v) k 0 ≡ v = rw e (rw get_or-set_same) in
              let o = holds.each k h in
              let z : get_or cells k 0 ≡ 0 = rw e empty in
              let t : same (exponents_at i) (exponents_at k) ≡ true = ap (λ j. same (exponents_at i) (exponents_at j)) e ∙ same_refl (exponents_at i) in
              rw (t, mul-one) (omega arith)
          | inr ne ↦
              let f = other_cell i k hi h ne in
              let o = holds.each k h in
              rw (get_or-set_other, f, mul-zero) (omega arith)
        ]

-- a constant has only the cell 0
pub constant_empty : (cells : List ℕ) (v i : ℕ) → Holds cells (constant v) → 0 < i → i < 256 → get_or cells i 0 ≡ 0
constant_empty cells v i holds pos h =
    let f : same (exponents_at 0) (exponents_at i) ≡ false = other_cell 0 i (omega arith) h (λ e. omega arith) in
    holds.each i h ∙ rw (f, mul-zero) (omega arith)

-- the cell of a variable's first power
pub power_within : (i : ℕ) → i < 4 → (0 < 4 ^ i) × (4 ^ i < 256)
power_within zero h = (omega arith, omega arith)
power_within (suc zero) h = (omega arith, omega arith)
power_within (suc (suc zero)) h = (omega arith, omega arith)
power_within (suc (suc (suc zero))) h = (omega arith, omega arith)
power_within (suc (suc (suc (suc i)))) h = absurd (omega arith)
