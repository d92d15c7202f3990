-- The small examples of orders.
use Rattle.std.proofs.Common.{[], ◌∷◌, refl, inl, inr, arith, lit<, lit≤}
use Rattle.terms.specs.Prefix.{Reads}
use Rattle.book.specs.Questions.{IsSide}
use Rattle.polynomials.specs.Examples.{f, g, x, doubled_arities}
use Rattle.order_theory.specs.Examples.{ranks, OrdersHoldAndFail}
use Rattle.order_theory.proofs.Testing.{greater_sound, greater_complete}
use Rattle.order_theory.proofs.PathStrict.{irreflexive}
use Rattle.order_theory.proofs.PathLaws.{path_order_keeps_the_laws}

no_side : IsSide doubled_arities [] → ⊥
no_side s = omega (arith, s.some)

variable_reads : Reads doubled_arities 4 (128 ∷ []) x
variable_reads = record { sorted = (lit≤ tt, lit< tt); form = refl }

pub orders_hold_and_fail : OrdersHoldAndFail
orders_hold_and_fail = record {
  greater = greater_sound ranks (f (f x)) (g (g x)) tt;
  not_greater = λ h. greater_complete ranks h;
  path_zero = refl;
  path_one = refl;
  path_eight = refl;
  polynomial_zero = refl;
  polynomial_one = refl;
  polynomial_eight = refl;
  proper = (tt, λ y o. o);
  variable_left = λ p. p.0;
  new_variable = λ p. elim (p.1 129 (inl refl)) [ inl e ↦ omega (arith, e) | inr e ↦ e ];
  fence_zero = refl;
  fence_nine = refl;
  fence_eight = refl;
  laws = path_order_keeps_the_laws doubled_arities ranks;
  every_pair_zero = λ l. let e = l.malformed [] [] (λ s. no_side s.0) in omega (arith, e);
  every_pair_one = λ l. let e = l.malformed [] [] (λ s. no_side s.0) in omega (arith, e);
  all_sides_zero = λ l. irreflexive ranks x (l.graded_over (128 ∷ []) (128 ∷ []) x x variable_reads variable_reads refl);
}
