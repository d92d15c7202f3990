-- The small examples of figures.
use Rattle.std.proofs.Common.{◌≡◌, ℕ, zero, suc, ◌≤◌, [], refl, inl, inr, arith, lit<, lit≤}
use Rattle.polynomials.specs.Polynomial.{exponent}
use Rattle.polynomials.specs.Coding.{polynomial_from}
use Rattle.polynomials.specs.Examples.{first_argument}
use Rattle.orders.specs.FieldQuestions.{Answered}
use Rattle.orders.specs.Polynomials.{MonomialsFit, HasArguments, polynomial_questions, interpretation_of}
use Rattle.orders.specs.PolynomialFaults.{PolynomialsRefused}
use Rattle.orders.specs.Examples.{multiplied_by, FiguresHoldAndFail}

one_fits : (c : ℕ) → 1 ≤ c → c ≤ 65535 → MonomialsFit 1 [] (first_argument c 1)
one_fits c least most = (record { least = least; most = most; small = small; absent = absent; new = λ h. h }, tt)
  where
    small : (i : ℕ) → exponent i (record { e0 = 1; e1 = 0; e2 = 0; e3 = 0 }) ≤ 3
    small zero = lit≤ tt
    small (suc zero) = lit≤ tt
    small (suc (suc zero)) = lit≤ tt
    small (suc (suc (suc zero))) = lit≤ tt
    small (suc (suc (suc (suc i)))) = lit≤ tt

    absent : (i : ℕ) → 1 ≤ i → exponent i (record { e0 = 1; e1 = 0; e2 = 0; e3 = 0 }) ≡ 0
    absent zero h = absurd (omega (arith, h))
    absent (suc zero) h = refl
    absent (suc (suc zero)) h = refl
    absent (suc (suc (suc zero))) h = refl
    absent (suc (suc (suc (suc i)))) h = refl

first_there : (c : ℕ) → HasArguments 1 (first_argument c 1)
first_there c zero h = lit≤ tt
first_there c (suc i) h = absurd (omega (arith, h))

polynomials_given : Answered polynomial_questions (multiplied_by 3) 3
unfolding polynomial_from
polynomials_given = record {
  all_pass = ((record { declared = λ e. cc; first = λ h. h }, (one_fits 3 (lit≤ tt) (lit≤ tt), (first_there 3, tt))), tt);
  all_have = (inl refl, tt);
}

zero_refused : PolynomialsRefused (multiplied_by 0) 9 5
unfolding polynomial_from
zero_refused = inl (record {
  before = [];
  field = _;
  rest = [];
  fields_are = refl;
  good = tt;
  first_no = inr (record { declared = λ e. cc; first = λ h. h }, inl ((λ f. omega (arith, f.0.least)), refl));
  offset = refl;
})

polynomial_is : interpretation_of (multiplied_by 3) 2 ≡ first_argument 3 1
unfolding polynomial_from
polynomial_is = refl

pub figures_hold_and_fail : FiguresHoldAndFail
figures_hold_and_fail = record {
  ranks_given = record { all_first = (record { declared = λ e. cc; first = λ h. h }, tt); all_have = (inl refl, tt) };
  rank_is = refl;
  no_rank = inr (refl, record { all_first = tt; before = []; field = _; rest = []; symbols_are = refl; good = tt; no = λ h. h; offset = refl });
  not_ranked = λ f. f.all_have.0;
  undeclared = inl (refl, record { before = []; field = _; rest = []; fields_are = refl; good = tt; no = λ f. f.declared refl; offset = refl });
  polynomials_given = polynomials_given;
  polynomial_is = polynomial_is;
  no_polynomial = inr (refl, tt, record { before = []; field = _; rest = []; symbols_are = refl; good = tt; no = λ h. h; offset = refl });
  zero = zero_refused;
  fits = one_fits 1 (lit≤ tt) (lit≤ tt);
  past_the_arity = λ f. let e = f.0.absent 0 (lit≤ tt) in omega (arith, e);
  again = λ f. f.1.0.new (inl refl);
  has_first = first_there 1;
  lacks_second = λ h. let e = h 1 (lit< tt) in omega (arith, e);
}
