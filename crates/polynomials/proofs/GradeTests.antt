-- The grade of two terms from their measures and their tables.
use Rattle.std.proofs.Common.{◌≡◌, ℕ, ◌<◌, ◌≤◌, Bool, false, refl, subst, cond, ◌||◌, ltb, List, [], ◌∷◌, sym, ap, ◌∙◌, ap₂, inl, inr, append-nil, arith}
use Rattle.std.proofs.lemmas.Bool.{cases_lt, lt-ltb, le-ltb, ltb-false, cond-false}
use Rattle.terms.specs.Term.{Term}
use Rattle.terms.specs.Prefix.{Arities, prefix, WellSorted, Reads, IsTerm, Begins, term_of}
use Rattle.terms.proofs.Sorts.{well_sorted_prop}
use Rattle.terms.proofs.Reading.{bytes_read_as_their_term}
use Rattle.std.specs.Coded.{Coded-set, coded_list, coded_ℕ}
use mathlib.Core.Logic.{∥∥₁_elim}
use Rattle.std.proofs.Math.Bool.{or-false}
use Rattle.std.specs.List.{list_any, range_with_len}
use Rattle.polynomials.specs.Polynomial.{Polynomial, value, degree}
use Rattle.polynomials.specs.Interpretation.{Interpretation, Proper, polynomial_of, shifted}
use Rattle.polynomials.specs.Grade.{steep, large, any_negative, positive_constant, grade}
use Rattle.polynomials.specs.Cells.{TermRoom}
use Rattle.polynomials.specs.Coding.{cut_off}
use Rattle.polynomials.specs.Measured.{ValueAtTwo, Degree, measured}
use Rattle.polynomials.proofs.Values.{value_polynomial}
use Rattle.polynomials.proofs.Degrees.{degree_shifted}
use Rattle.polynomials.proofs.Limits.{cut_above}
use Rattle.polynomials.proofs.Grades.{not_steep}
use Rattle.polynomials.proofs.Measures.{measured_value, measured_degree}

-- bytes that are a term begin with it
pub begins_all : (sig : Arities) (bytes : List ℕ) (t : Term) → Reads sig 4 bytes t → Begins sig 4 bytes t
begins_all sig bytes t r = record { sorted = r.sorted; rest = []; form = append-nil (prefix t) ∙ r.form }

-- bytes that are one term in whatever way are the term that they read as
pub term_held : (sig : Arities) (bytes : List ℕ) → ∥ IsTerm sig 4 bytes ∥₁ → Reads sig 4 bytes (term_of sig bytes)
term_held sig bytes held = record {
  sorted = ∥∥₁_elim held (well_sorted_prop sig 4 (term_of sig bytes)) (λ r. subst (WellSorted sig 4) (sym (bytes_read_as_their_term sig 4 bytes r.0 r.1)) r.1.sorted);
  form = ∥∥₁_elim held (Coded-set (coded_list coded_ℕ) (prefix (term_of sig bytes)) bytes) (λ r. ap prefix (bytes_read_as_their_term sig 4 bytes r.0 r.1) ∙ r.1.form);
}

-- the four variables are asked one after the other
pub steep_any : (p : Polynomial) → list_any (λ i. ltb 3 (degree i p)) (range_with_len 0 4) ≡ steep p
steep_any p = rw or-false refl

-- a test below the limit is the same on what is cut off
test_cut : (k n r : ℕ) → k < 2147483648 → r ≡ cut_off 2147483648 n → ltb k r ≡ ltb k n
test_cut k n r h e =
    ap (ltb k) e
    ∙ elim (cases_lt k n) [
      | inl l ↦ lt-ltb k (cut_off 2147483648 n) ((cut_above 2147483648 k n h).1 l) ∙ sym (lt-ltb k n l)
      | inr l ↦ le-ltb k (cut_off 2147483648 n) (not_above (cut_above 2147483648 k n h).0 l) ∙ sym (le-ltb k n l)
    ]
  where
    not_above : {x : ℕ} → (k < x → k < n) → n ≤ k → x ≤ k
    not_above {x} f l = elim (cases_lt k x) [ inl m ↦ absurd (let z = f m in omega arith) | inr m ↦ m ]

module _ (sig : Arities) (interpretation : Interpretation) (proper : Proper sig interpretation) (t : Term) (sorted : WellSorted sig 4 t) where
  pub steep_test : (i r : ℕ) → r ≡ cut_off 2147483648 (measured (Degree i) interpretation t) → ltb 3 r ≡ ltb 3 (degree i (polynomial_of interpretation t))
  steep_test i r e = test_cut 3 _ r (omega arith) e ∙ ap (ltb 3) (measured_degree sig interpretation proper i t sorted)

  pub large_test : (r : ℕ) → r ≡ cut_off 2147483648 (measured ValueAtTwo interpretation t) → ltb 2147483647 r ≡ large (polynomial_of interpretation t)
  large_test r e = test_cut 2147483647 _ r (omega arith) e ∙ ap (ltb 2147483647) (measured_value interpretation t ∙ sym (value_polynomial interpretation sig t sorted (λ x. 2)))

  -- there is room for a term that is neither steep nor large
  pub term_room : steep (polynomial_of interpretation t) ≡ false → large (polynomial_of interpretation t) ≡ false → TermRoom interpretation t
  term_room s l = record {
    degrees = not_steep (polynomial_of interpretation t) s;
    room = let h = ltb-false 2147483647 (value (2 ∷ 2 ∷ 2 ∷ 2 ∷ []) (polynomial_of interpretation t)) l in let v = value_polynomial interpretation sig t sorted (λ x. 2) in omega arith;
  }

  pub shifted_degrees : TermRoom interpretation t → (i : ℕ) → i < 4 → degree i (shifted interpretation t) ≤ 3
  shifted_degrees fits i l = let d = degree_shifted sig 4 interpretation proper i t sorted in let f = fits.degrees i l in omega arith

module _ (interpretation : Interpretation) (s t : Term)
    (steep_s : steep (polynomial_of interpretation s) ≡ false) (steep_t : steep (polynomial_of interpretation t) ≡ false)
    (large_s : large (polynomial_of interpretation s) ≡ false) (large_t : large (polynomial_of interpretation t) ≡ false) where
  -- what is left of the grade is read off the tables
  pub graded : (n o : Bool) → any_negative (shifted interpretation s) (shifted interpretation t) ≡ n → positive_constant (shifted interpretation s) (shifted interpretation t) ≡ o →
      ◌≡◌ {A = ℕ} (cond n 1 (cond o 0 1)) (grade interpretation s t)
  graded n o n_is o_is =
      let p : Polynomial = polynomial_of interpretation s in
      let q : Polynomial = polynomial_of interpretation t in
      let p' : Polynomial = shifted interpretation s in
      let q' : Polynomial = shifted interpretation t in
      let rest : ℕ = cond (any_negative p' q') 1 (cond (positive_constant p' q') 0 1) in
      let x : (steep p || steep q) ≡ false = rw (steep_s, steep_t) refl in
      let y : (large p || large q) ≡ false = rw (large_s, large_t) refl in
      sym (cond-false (steep p || steep q) 3 (cond (large p || large q) 2 rest) x ∙ cond-false (large p || large q) 2 rest y ∙ ap₂ (λ v w. cond v 1 (cond w 0 1)) n_is o_is)
