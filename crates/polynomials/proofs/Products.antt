-- The product of two tables, summed up row by row.
use Rattle.std.proofs.Common.{◌≡◌, ℕ, zero, suc, ◌+◌, ◌*◌, ◌<◌, ◌≤◌, true, false, cond, List, length, get_or, sym, refl, ap, ◌∙◌, inl, inr, mul-zero, zero-mul, mul-one, arith}
use Rattle.std.proofs.lemmas.Bool.{cases_eq, cases_Bool}
use Rattle.polynomials.specs.Polynomial.{together, Monomial, Polynomial, same, coefficient, multiple, product}
use Rattle.polynomials.specs.Cells.{exponents_at, cell, of_cells, held, Small, row_at, product_at}
use Rattle.polynomials.proofs.Values.{weighed-++}
use Rattle.polynomials.proofs.Cells.{same_true, same_refl, at_cell, cell_at, cell_below}

-- the monomial of a cell
abbrev pub at_place : List ℕ → ℕ → Monomial
at_place a i = record { factor = get_or a i 0; exponents = exponents_at i }

abbrev pub first_cells : List ℕ → ℕ → Polynomial
first_cells a i = of_cells (λ k. get_or a k 0) i

-- what the rows before i give at the cell k, and what the first j cells of the row i give
unfoldable pub rows : List ℕ → List ℕ → ℕ → ℕ → ℕ
rows a b i k = coefficient (product (first_cells a i) (held b)) (exponents_at k)

unfoldable pub row : List ℕ → List ℕ → ℕ → ℕ → ℕ → ℕ
row a b i j k = coefficient (multiple (at_place a i) (first_cells b j)) (exponents_at k)

pub rows_more : (a b : List ℕ) (i k : ℕ) → rows a b (suc i) k ≡ rows a b i k + row a b i (length b) k
unfolding rows row
rows_more a b i k =
    let h = weighed-++ (λ e. cond (same e (exponents_at k)) 1 0) (multiple (at_place a i) (held b)) (product (first_cells a i) (held b)) in
    omega arith

-- a row of zeros gives nothing
row_zero : (a b : List ℕ) (i j k : ℕ) → get_or a i 0 ≡ 0 → row a b i j k ≡ 0
unfolding row
row_zero a b i zero k z = refl
row_zero a b i (suc j) k z = rw (z, zero-mul, zero-mul) (let h = row_zero a b i j k z in omega arith)

pub rows_zero : (a b : List ℕ) (i k : ℕ) → get_or a i 0 ≡ 0 → rows a b (suc i) k ≡ rows a b i k
rows_zero a b i k z = let h = rows_more a b i k in let l = row_zero a b i (length b) k z in omega arith

-- one more cell
pub row_none : (a b : List ℕ) (i j k : ℕ) → get_or b j 0 ≡ 0 → row a b i (suc j) k ≡ row a b i j k
unfolding row
row_none a b i j k z = rw (z, mul-zero, zero-mul) (omega arith)

module _ (a b : List ℕ) (i j : ℕ) (hi : i < 256) (hj : j < 256) (small : Small (together (exponents_at i) (exponents_at j))) where
  -- where no exponent passes 3, the cells of a product add up
  pub cell_together : cell (together (exponents_at i) (exponents_at j)) ≡ i + j
  cell_together = let p = cell_at i hi in let q = cell_at j hj in omega arith

  pub cells_below : i + j < 256
  cells_below = let p = cell_below (together (exponents_at i) (exponents_at j)) small in let q = cell_together in omega arith

  pub row_here : row a b i (suc j) (i + j) ≡ row a b i j (i + j) + get_or a i 0 * get_or b j 0
  unfolding row
  row_here =
      let e : exponents_at (i + j) ≡ together (exponents_at i) (exponents_at j) = ap exponents_at (sym cell_together) ∙ at_cell _ small in
      let t : same (together (exponents_at i) (exponents_at j)) (exponents_at (i + j)) ≡ true = ap (same (together (exponents_at i) (exponents_at j))) e ∙ same_refl (together (exponents_at i) (exponents_at j)) in
      rw (t, mul-one) (omega arith)

  pub row_other : (k : ℕ) → k < 256 → (k ≡ i + j → ⊥) → row a b i (suc j) k ≡ row a b i j k
  unfolding row
  row_other k h ne =
      let f : same (together (exponents_at i) (exponents_at j)) (exponents_at k) ≡ false =
      elim (cases_Bool (same (together (exponents_at i) (exponents_at j)) (exponents_at k))) [
        | inl t ↦ absurd (ne (sym (cell_at k h) ∙ ap cell (sym (same_true (together (exponents_at i) (exponents_at j)) (exponents_at k) t)) ∙ cell_together))
        | inr f ↦ f
      ] in
      rw (f, mul-zero) (omega arith)

-- what is summed up so far is part of the whole
pub row_le : (a b : List ℕ) (i j n k : ℕ) → j ≤ n → row a b i j k ≤ row a b i n k
unfolding row
row_le a b i j zero k h = let e : j ≡ 0 = omega arith in rw e (omega arith)
row_le a b i j (suc n) k h =
    elim (cases_eq j (suc n)) [
      | inl e ↦ rw e (omega arith)
      | inr ne ↦ let l = row_le a b i j n k (omega arith) in omega arith
    ]

rows_le : (a b : List ℕ) (i n k : ℕ) → i ≤ n → rows a b i k ≤ rows a b n k
unfolding rows
rows_le a b i zero k h = let e : i ≡ 0 = omega arith in rw e (omega arith)
rows_le a b i (suc n) k h =
    elim (cases_eq i (suc n)) [
      | inl e ↦ rw e (omega arith)
      | inr ne ↦ let l = rows_le a b i n k (omega arith) in let m = rows_more a b n k in omega arith
    ]

pub rows_all : (a b : List ℕ) (k : ℕ) → rows a b (length a) k ≡ product_at a b k
unfolding rows product_at
rows_all a b k = refl

pub rows_none : (a b : List ℕ) (k : ℕ) → rows a b 0 k ≡ 0
unfolding rows
rows_none a b k = refl

pub row_whole : (a b : List ℕ) (i k : ℕ) → row a b i (length b) k ≡ row_at a b i k
unfolding row row_at
row_whole a b i k = refl

pub row_start : (a b : List ℕ) (i k : ℕ) → row a b i 0 k ≡ 0
unfolding row
row_start a b i k = refl

pub part_le : (a b : List ℕ) (i j k : ℕ) → i < length a → j ≤ length b → rows a b i k + row a b i j k ≤ product_at a b k
part_le a b i j k hi hj =
    let l = row_le a b i j (length b) k hj in
    let m = rows_more a b i k in
    let n = rows_le a b (suc i) (length a) k hi in
    let all = rows_all a b k in
    omega arith
