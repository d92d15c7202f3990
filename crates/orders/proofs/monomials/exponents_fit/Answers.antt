use Rattle.std.proofs.Common.{sym, ◌∙◌}
use Rattle.std.proofs.lemmas.Bool.{false≢true}
use Rattle.std.proofs.lemmas.Bool.Decides.{not_from_Decides}
use Rattle.orders.proofs.MonomialLists.{three_fit}
use Rattle.orders.proofs.monomials.exponents_fit.Goals.{then-exponent_fits, else-exponent_fits}
use Rattle.orders.proofs.monomials.exponents_fit.Goals as goal

pub returns-then-exponent_fits-2 : goal.returns-then-exponent_fits-2
returns-then-exponent_fits-2 c =
    let third = c.exponent_fits-then-exponent_fits-2.ensures in (
      (λ e. elim c.if-exponent_fits.branch [
        | then-exponent_fits w ↦
            three_fit _ c.args.monomial.now (c.exponent_fits.ensures.0 w.if-exponent_fits.true)
            (w.exponent_fits-then-exponent_fits.ensures.0 (sym w.value-is ∙ c.if-exponent_fits-2.true)) (third.0 e)
        | else-exponent_fits w ↦ absurd (false≢true (sym w.if-exponent_fits.false ∙ (sym w.value-is ∙ c.if-exponent_fits-2.true)))
      ]),
      (λ f. third.1 (f.0 2, f.1 2)),
    )

pub returns-else-exponent_fits-2 : goal.returns-else-exponent_fits-2
returns-else-exponent_fits-2 c = (
  (λ e. absurd (false≢true (sym c.if-exponent_fits-2.false ∙ e))),
  (λ f. elim c.if-exponent_fits.branch [
    | then-exponent_fits w ↦ absurd (not_from_Decides _ w.exponent_fits-then-exponent_fits.ensures (sym w.value-is ∙ c.if-exponent_fits-2.false) (f.0 1, f.1 1))
    | else-exponent_fits w ↦ absurd (not_from_Decides _ c.exponent_fits.ensures w.if-exponent_fits.false (f.0 0, f.1 0))
  ]),
)
