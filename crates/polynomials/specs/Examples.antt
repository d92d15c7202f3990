-- Small examples, computed from the definitions. The symbols are e, f and g with the codes 1 to 3; x is the variable 128.
use Rattle.std.specs.Prelude.{◌≡◌, ℕ, zero, suc, ◌+◌, ◌<◌, ◌≤◌, Bool, true, false, cond, Some, None, Option, ◌==◌, refl}
use Rattle.std.proofs.Common.{subst, arith}
use Rattle.terms.specs.Prefix.{Arities}
use Rattle.terms.specs.Term.{Term, var, node, nil, cons}
use Rattle.polynomials.specs.Polynomial.{Polynomial, degree, monomial, constant, constant_term, sum}
use Rattle.polynomials.specs.Interpretation.{Interpretation, ProperFor, Proper, shifted}
use Rattle.polynomials.specs.Grade.{grade}

abbrev pub e : Term
e = node 1 nil

abbrev pub f : Term → Term
f t = node 2 (cons t nil)

abbrev pub g : Term → Term
g t = node 3 (cons t nil)

abbrev pub x : Term
x = var 128

-- c times the power n of the first argument
abbrev pub first_argument : ℕ → ℕ → Polynomial
first_argument c n = monomial c (record { e0 = n; e1 = 0; e2 = 0; e3 = 0 })

-- f = 2 X + 1 and g = 2 X
abbrev pub doubling : Interpretation
doubling k = cond (k == 2) (sum (first_argument 2 1) (constant 1)) (first_argument 2 1)

-- f and g have one argument
abbrev pub doubled_arities : Arities
doubled_arities k = cond (k == 2) (Some 1) (cond (k == 3) (Some 1) None)

pub doubling_proper : Proper doubled_arities doubling
doubling_proper k n is = at (k == 2) (k == 3) is
  where
    with_one : ProperFor 1 (sum (first_argument 2 1) (constant 1))
    with_one = record { not_empty = omega arith; factors = (omega arith, (omega arith, tt)); present = there; absent = nowhere }
      where
        there : (i : ℕ) → i < 1 → 1 ≤ degree i (sum (first_argument 2 1) (constant 1))
        there zero h = omega arith
        there (suc i) h = absurd (omega arith)

        nowhere : (i : ℕ) → 1 ≤ i → degree i (sum (first_argument 2 1) (constant 1)) ≡ 0
        nowhere zero h = absurd (omega arith)
        nowhere (suc zero) h = refl
        nowhere (suc (suc zero)) h = refl
        nowhere (suc (suc (suc zero))) h = refl
        nowhere (suc (suc (suc (suc i)))) h = refl

    alone : ProperFor 1 (first_argument 2 1)
    alone = record { not_empty = omega arith; factors = (omega arith, tt); present = there; absent = nowhere }
      where
        there : (i : ℕ) → i < 1 → 1 ≤ degree i (first_argument 2 1)
        there zero h = omega arith
        there (suc i) h = absurd (omega arith)

        nowhere : (i : ℕ) → 1 ≤ i → degree i (first_argument 2 1) ≡ 0
        nowhere zero h = absurd (omega arith)
        nowhere (suc zero) h = refl
        nowhere (suc (suc zero)) h = refl
        nowhere (suc (suc (suc zero))) h = refl
        nowhere (suc (suc (suc (suc i)))) h = refl

    at : (b c : Bool) → ◌≡◌ {A = Option ℕ} (cond b (Some 1) (cond c (Some 1) None)) (Some n) → ProperFor n (cond b (sum (first_argument 2 1) (constant 1)) (first_argument 2 1))
    at true c e = let q : ◌≡◌ {A = ℕ} 1 n = cc in subst (λ m. ProperFor m (sum (first_argument 2 1) (constant 1))) q with_one
    at false true e = let q : ◌≡◌ {A = ℕ} 1 n = cc in subst (λ m. ProperFor m (first_argument 2 1)) q alone
    at false false e = let z : ◌≡◌ {A = ℕ} 0 1 = cc in absurd (omega arith)

-- f = X ^ 3
abbrev pub cubing : Interpretation
cubing k = first_argument 1 3

-- e = 1 and f = c X
abbrev pub scaling : ℕ → Interpretation
scaling c k = cond (k == 1) (constant 1) (first_argument c 1)

-- Both f f x → g g x and g g f x → f g g x fall, each by 3; the power 3 is no more than 3, and 9 is; 46340 ^ 2 is no more than 2 ^ 31 - 1, and 46341 ^ 2 is.
pub record GradeExamples : Type 0 where
  pub first_rule : grade doubling (f (f x)) (g (g x)) ≡ 0
  pub second_rule : grade doubling (g (g (f x))) (f (g (g x))) ≡ 0
  pub first_by_three : constant_term (shifted doubling (f (f x))) ≡ constant_term (shifted doubling (g (g x))) + 3
  pub second_by_three : constant_term (shifted doubling (g (g (f x)))) ≡ constant_term (shifted doubling (f (g (g x)))) + 3
  pub not_seen : grade cubing (f x) x ≡ 1
  pub too_steep : grade cubing (f (f x)) x ≡ 3
  pub just_fits : grade (scaling 46340) (f (f e)) e ≡ 0
  pub too_large : grade (scaling 46341) (f (f e)) e ≡ 2
