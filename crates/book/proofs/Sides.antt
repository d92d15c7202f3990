-- When a field's value is two sides of a rule.
use Rattle.std.proofs.Common.{◌≡◌, ◌+◌, ◌<◌, ◌≤◌, Bool, false, Option, Some, None, MatchOption, [], length, get_or, Decides, sym, ap, subst, arith}
use Rattle.std.proofs.lemmas.Bool.{both_ways}
use Rattle.std.proofs.lemmas.List.{drop_all}
use Rattle.terms.specs.declared.side.Sides.{Sides}
use Rattle.terms.specs.Prefix.{Arities}
use Rattle.terms.specs.Side.{IsSide}
use Rattle.book.specs.Format.{BookField}
use Rattle.book.specs.Meaning.{left_side, right_side}
use Rattle.book.specs.Questions.{SidesFit}

module _ (sig : Arities) where
  module _ (f : BookField) where
    no_right : length f.value < 1 + get_or f.value 0 0 → SidesFit sig f → ⊥
    no_right h s =
        let e : right_side f ≡ [] = drop_all (1 + get_or f.value 0 0) f.value (omega arith) in
        omega (arith, s.1.some, ap length e)

    -- asked of the sides that the value has, if it has some
    pub both_fit : (o : Option Sides) (r : Bool)
        → MatchOption o (length f.value < 1 + get_or f.value 0 0) (λ s. (1 + get_or f.value 0 0 ≤ length f.value) × (s.left.now ≡ left_side f) × (s.right.now ≡ right_side f))
        → MatchOption o (r ≡ false) (λ s. Decides r (IsSide sig s.left.now × IsSide sig s.right.now)) → Decides r (SidesFit sig f)
    both_fit None r short is = ((λ t. absurd (both_ways r is t)), (λ s. absurd (no_right short s)))
    both_fit (Some s) r found d = (
      (λ t. let p = d.0 t in (subst (IsSide sig) found.1 p.0, subst (IsSide sig) found.2 p.1)),
      (λ fits. d.1 (subst (IsSide sig) (sym found.1) fits.0, subst (IsSide sig) (sym found.2) fits.1)),
    )
