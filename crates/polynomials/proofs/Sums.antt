-- A turn of the loop that adds the product of two tables, over plain lists.
use Rattle.std.proofs.Common.{◌≡◌, ℕ, suc, ◌+◌, ◌*◌, ◌<◌, ◌≤◌, ◌≢◌, List, length, get_or, set, inl, inr, arith, get_or-set_other, get_or-set_same}
use Rattle.std.proofs.lemmas.Bool.{cases_eq}
use Rattle.polynomials.specs.Polynomial.{together}
use Rattle.polynomials.specs.Cells.{exponents_at, Small, NoCarry, row_at}
use Rattle.polynomials.proofs.Products.{row, cells_below, row_here, row_other, row_le, row_whole}

module _ (a b : List ℕ) (i j : ℕ) (hi : i < 256) (hj : j < 256) (apart : NoCarry a b)
    (x : 1 ≤ get_or a i 0) (y : get_or b j 0 ≢ 0) where
  small : Small (together (exponents_at i) (exponents_at j))
  small = apart i j hi hj (omega arith) (omega arith)

  pub within : i + j < 256
  within = cells_below a b i j hi hj small

  module _ (start inner : List ℕ) (from_start : (k : ℕ) → k < 256 → get_or inner k 0 ≡ get_or start k 0 + row a b i j k) where
    -- the new sum is part of what the caller left room for
    pub fits : length b ≡ 256 → get_or inner (i + j) 0 + get_or a i 0 * get_or b j 0 ≤ get_or start (i + j) 0 + row_at a b i (i + j)
    fits lb =
        let s = from_start (i + j) within in
        let r = row_here a b i j hi hj small in
        let p = row_le a b i (suc j) (length b) (i + j) (omega arith) in
        let w = row_whole a b i (i + j) in
        omega arith

    pub turned : length inner ≡ 256 → (k : ℕ) → k < 256 →
        get_or (set inner (i + j) (get_or inner (i + j) 0 + get_or a i 0 * get_or b j 0)) k 0 ≡ get_or start k 0 + row a b i (suc j) k
    turned l k h =
        elim (cases_eq k (i + j)) [
          | inl e ↦
              let lt : i + j < length inner = let w = within in omega arith in
              let o = from_start (i + j) within in
              let r = row_here a b i j hi hj small in
              rw (e, get_or-set_same) (omega arith)
          | inr ne ↦
              let o = from_start k h in
              let r = row_other a b i j hi hj small k h ne in
              rw get_or-set_other (omega arith)
        ]
