-- The small examples of orienting.
use Rattle.std.proofs.Common.{◌≡◌, ℕ, zero, suc, ◌<◌, refl, arith, lit<}
use Rattle.polynomials.specs.Examples.{doubled_arities}
use Rattle.order_theory.specs.Grade.{path_grade}
use Rattle.order_theory.specs.Examples.{ranks}
use Rattle.judge.specs.Orient.{rule_grade}
use Rattle.judge.specs.Examples.{falling, rising, OrientingHoldsAndFails}

all_fall : (i : ℕ) → i < 1 → rule_grade (path_grade doubled_arities ranks) falling i ≡ 0
all_fall zero h = refl
all_fall (suc i) h = absurd (omega (arith, h))

first_falls : (j : ℕ) → j < 1 → rule_grade (path_grade doubled_arities ranks) rising j ≡ 0
first_falls zero h = refl
first_falls (suc j) h = absurd (omega (arith, h))

pub orienting_holds_and_fails : OrientingHoldsAndFails
orienting_holds_and_fails = record {
  falls = record { same_signature = λ c h. refl; all_over = all_fall };
  rises = λ f. let e = f.all_over 1 (lit< tt) in omega (arith, e);
  refused = (record { same_signature = λ c h. refl; listed = lit< tt; over_before = first_falls; grade_is = refl; not_over = λ e. omega (arith, e) }, refl);
  not_refused = λ r. let e = r.0.grade_is in omega (arith, e);
  other_signature = λ s. let e = s 2 (lit< tt) in let z : ◌≡◌ {A = ℕ} 0 1 = cc in omega arith;
  same_signature = λ c h. refl;
}
