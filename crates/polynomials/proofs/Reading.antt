-- The polynomial of bytes, one monomial after the other.
use Rattle.std.proofs.Common.{◌≡◌, ℕ, zero, suc, ◌+◌, ◌-◌, ◌/◌, ◌<◌, ◌≤◌, List, [], ◌∷◌, length, get_or, take, drop, refl, sym, ap, ◌∙◌, ap₂, arith, length-drop}
use Rattle.std.proofs.lemmas.List.{get_or-drop, take_rest}
use Rattle.polynomials.specs.Coding.{monomial_at, monomials_at, polynomial_from}

pub none_read : (bs : List ℕ) → length bs < 7 → polynomial_from bs ≡ []
unfolding polynomial_from
none_read bs h = let n : length bs / 7 ≡ 0 = omega arith in ap (λ n. monomials_at n 0 bs) n

one_behind : (bs : List ℕ) (p : ℕ) → monomial_at (drop 7 bs) p ≡ monomial_at bs (p + 7)
one_behind bs p = rw (place p (p + 7) (omega arith), place (p + 1) (p + 7 + 1) (omega arith), place (p + 2) (p + 7 + 2) (omega arith), place (p + 3) (p + 7 + 3) (omega arith), place (p + 4) (p + 7 + 4) (omega arith), place (p + 5) (p + 7 + 5) (omega arith), place (p + 6) (p + 7 + 6) (omega arith)) refl
  where
    place : (i j : ℕ) → 7 + i ≡ j → get_or (drop 7 bs) i 0 ≡ get_or bs j 0
    place i j e = get_or-drop 7 bs i 0 ∙ ap (λ k. get_or bs k 0) e

behind : (bs : List ℕ) (n p : ℕ) → monomials_at n p (drop 7 bs) ≡ monomials_at n (p + 7) bs
behind bs zero p = refl
behind bs (suc n) p = ap₂ ◌∷◌ (one_behind bs p) (behind bs n (p + 7))

pub one_read : (bs : List ℕ) → 7 ≤ length bs → polynomial_from bs ≡ monomial_at bs 0 ∷ polynomial_from (take (length bs - 7) (drop 7 bs))
unfolding polynomial_from
one_read bs h =
    let l = length-drop 7 bs in
    let n : length bs / 7 ≡ suc (length (drop 7 bs) / 7) = omega arith in
    rw (take_rest bs 7) (ap (λ n. monomials_at n 0 bs) n ∙ ap (λ p. monomial_at bs 0 ∷ p) (sym (behind bs (length (drop 7 bs) / 7) 0)))
