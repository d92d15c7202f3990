-- Tables are compared as the polynomials that they hold.
use Rattle.std.proofs.Common.{◌≡◌, ℕ, zero, suc, ◌<◌, ◌≤◌, Bool, false, ltb, List, [], ◌∷◌, length, get_or, refl, sym, ◌∙◌, subst, inl, inr, arith}
use Rattle.std.proofs.lemmas.Bool.{cases_Bool, cases_lt, le-ltb, ltb-false, or_parts, true≢false}
use Rattle.std.specs.List.{list_any, zip}
use Rattle.polynomials.specs.Polynomial.{Exponents, Polynomial, coefficient, exponent, degree}
use Rattle.polynomials.specs.Grade.{any_negative}
use Rattle.polynomials.specs.Cells.{exponents_at, cell, Small, Holds}
use Rattle.polynomials.proofs.Cells.{at_cell, cell_below}
use Rattle.polynomials.proofs.Grades.{nowhere_negative, no_negative}
use Rattle.polynomials.proofs.Holding.{within_degree}

-- no cell is smaller than that of another list, or all are at least as large
none_below : (a b : List ℕ) → list_any (λ x. ltb x.0 x.1) (zip a b) ≡ false → length b ≤ length a → (k : ℕ) → get_or b k 0 ≤ get_or a k 0
none_below [] [] n l k = omega arith
none_below [] (y ∷ b) n l k = absurd (omega arith)
none_below (x ∷ a) [] n l k = omega arith
none_below (x ∷ a) (y ∷ b) n l zero = ltb-false x y (or_parts (ltb x y) _ n).0
none_below (x ∷ a) (y ∷ b) n l (suc k) = none_below a b (or_parts (ltb x y) _ n).1 (omega arith) k

all_above : (a b : List ℕ) → ((k : ℕ) → k < length a → get_or b k 0 ≤ get_or a k 0) → list_any (λ x. ltb x.0 x.1) (zip a b) ≡ false
all_above [] b h = refl
all_above (x ∷ a) [] h = refl
all_above (x ∷ a) (y ∷ b) h = rw (le-ltb x y (h 0 (omega arith))) (all_above a b (λ k l. h (suc k) (omega arith)))

module _ (a b : List ℕ) (p q : Polynomial) (hold_a : Holds a p) (hold_b : Holds b q) where
  none_negative : ((i : ℕ) → i < 4 → degree i q ≤ 3) → ((k : ℕ) → k < 256 → get_or b k 0 ≤ get_or a k 0) → false ≡ any_negative p q
  none_negative degrees all = sym (no_negative p q q below)
    where
      below : (e : Exponents) → coefficient q e ≤ coefficient p e
      below e =
          elim (cases_lt (coefficient q e) 1) [
            | inl z ↦ omega arith
            | inr h ↦
                let d : (i : ℕ) → exponent i e ≤ degree i q = within_degree q e h in
                let s : Small e = record {
                  s0 = omega (arith, d 0, degrees 0 (omega arith));
                  s1 = omega (arith, d 1, degrees 1 (omega arith));
                  s2 = omega (arith, d 2, degrees 2 (omega arith));
                  s3 = omega (arith, d 3, degrees 3 (omega arith));
                } in
                let c = cell_below e s in
                let x = hold_a.each (cell e) c in
                let y = hold_b.each (cell e) c in
                let l = all (cell e) c in
                subst (λ f. coefficient q f ≤ coefficient p f) (at_cell e s) (omega arith)
          ]

  -- so a coefficient of p is smaller if a cell of a is
  pub cells_compared : (r : Bool) → r ≡ list_any (λ x. ltb x.0 x.1) (zip a b) → ((i : ℕ) → i < 4 → degree i q ≤ 3) → r ≡ any_negative p q
  cells_compared r e degrees =
      elim (cases_Bool (any_negative p q)) [
        | inl t ↦
            elim (cases_Bool (list_any (λ x. ltb x.0 x.1) (zip a b))) [
              | inl s ↦ e ∙ s ∙ sym t
              | inr n ↦ let l = hold_a.full in let m = hold_b.full in let z = none_negative degrees (λ k h. none_below a b n (omega arith) k) in absurd (true≢false (sym t ∙ sym z))
            ]
        | inr f ↦
            let l = hold_a.full in
            e ∙ all_above a b (λ k h. let n = nowhere_negative p q f (exponents_at k) in let x = hold_a.each k (omega arith) in let y = hold_b.each k (omega arith) in omega arith) ∙ sym f
      ]
