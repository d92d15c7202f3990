-- The path order keeps the laws of an order.
use Rattle.std.proofs.Common.{◌≡◌, ℕ, Bool, true, false, cond, List, sym, refl, ap, ◌∙◌, subst, subst₂, inl, inr, arith}
use Rattle.std.proofs.lemmas.Bool.{true≢false}
use mathlib.Core.WellFounded.{Acc}
use Rattle.terms.specs.Term.{var, node, nil, cons, Term, Terms, Occurs}
use Rattle.terms.specs.Prefix.{Arities, Reads}
use Rattle.rewriting.specs.Order.{ReductionOrder}
use Rattle.book.specs.Questions.{IsSide}
use Rattle.order_theory.specs.Path.{Greater, by_argument, by_rank, by_arguments, SomeAtLeast, is_first, in_first, in_rest, GreaterThanAll}
use Rattle.order_theory.specs.Grade.{greater, path_grade}
use Rattle.order_theory.specs.Theorems.{InWords, variable, argument, higher_head, same_head, PathOrderInWords, PathOrderIsStrict, PathOrderKeepsTheLaws}
use Rattle.order_theory.proofs.PathEnds.{well_founded, greater_sub, larger_plug}
use Rattle.order_theory.proofs.PathStrict.{greater_trans, irreflexive}
use Rattle.order_theory.proofs.Testing.{greater_sound, greater_complete}
use Rattle.order_theory.proofs.BytesLaws.{to_true, from_true, grade_of_terms, bytes_keep_the_laws}

-- ── in words ──

occurs_some : (rank : ℕ → ℕ) (x : ℕ) (ss : Terms) → Occurs x ss → SomeAtLeast rank ss (var x)
occurs_some rank x (cons (var y) ss) (inl o) = subst (λ z. SomeAtLeast rank (cons (var y) ss) (var z)) (sym o) is_first
occurs_some rank x (cons (node f ts) ss) (inl o) = in_first (by_argument (occurs_some rank x ts o))
occurs_some rank x (cons s ss) (inr o) = in_rest (occurs_some rank x ss o)
occurs_some rank x nil o = absurd o

variable_below : (rank : ℕ → ℕ) (s : Term) (x : ℕ) → Occurs x s → (s ≡ var x → ⊥) → Greater rank s (var x)
variable_below rank (var y) x o n = absurd (n (ap var (sym o)))
variable_below rank (node f ss) x o n = by_argument (occurs_some rank x ss o)

words : (rank : ℕ → ℕ) (s t : Term) → Greater rank s t → InWords rank s t
words rank s t (by_argument {f = f} {ss = ss} a) = argument f ss refl a
words rank s t (by_rank {f = f} {g = g} {ss = ss} {ts = ts} r a) = higher_head f g ss ts refl refl a r
words rank s t (by_arguments {f = f} {ss = ss} {ts = ts} l a) = same_head f ss ts refl refl a l

from_words : (rank : ℕ → ℕ) (s t : Term) → InWords rank s t → Greater rank s t
from_words rank s t (variable x e o n) = subst (Greater rank s) (sym e) (variable_below rank s x o (λ q. n (q ∙ sym e)))
from_words rank s t (argument f ss e a) = subst (λ u. Greater rank u t) (sym e) (by_argument a)
from_words rank s t (higher_head f g ss ts e d a r) = subst₂ (Greater rank) (sym e) (sym d) (by_rank r (subst (λ u. GreaterThanAll rank u ts) e a))
from_words rank s t (same_head f ss ts e d a l) = subst₂ (Greater rank) (sym e) (sym d) (by_arguments l (subst (λ u. GreaterThanAll rank u ts) e a))

pub path_order_in_words : PathOrderInWords
path_order_in_words rank s t = (words rank s t, from_words rank s t)

pub path_order_is_strict : PathOrderIsStrict
path_order_is_strict rank = (greater_trans rank, irreflexive rank)

-- ── the laws ──

acc_inside : {A : Type 0} {R Q : A → A → Type 0} → ((y x : A) → Q y x → R y x) → {x : A} → Acc R x → Acc Q x
acc_inside h (Acc.intro x k) = Acc.intro x (λ y q. acc_inside h (k y (h y x q)))

module _ (sig : Arities) (rank : ℕ → ℕ) where
  path_reduction : ReductionOrder sig (Greater rank)
  path_reduction = record {
    contexts = λ C s t o w. larger_plug rank C s t o.is_over;
    substitutions = λ σ k s t o. greater_sub rank σ o.is_over;
    no_descent = λ t. acc_inside (λ u s o. o.is_over) (well_founded rank t);
  }

  zero_or_one : (b : Bool) → ◌≡◌ {A = ℕ} (cond b 0 1) 8 → ⊥
  zero_or_one true e = omega arith
  zero_or_one false e = omega arith

  zero_over : (s t : Term) → ◌≡◌ {A = ℕ} (cond (greater rank s t) 0 1) 0 → Greater rank s t
  zero_over s t e = by (greater rank s t) refl e
    where
      by : (b : Bool) → greater rank s t ≡ b → ◌≡◌ {A = ℕ} (cond b 0 1) 0 → Greater rank s t
      by true d q = greater_sound rank s t (from_true (greater rank s t) d)
      by false d q = absurd (omega arith)

  -- the grade by what the program finds out
  pub path_grade_by : (bs cs : List ℕ) (s t : Term) → IsSide sig bs → IsSide sig cs → Reads sig 4 bs s → Reads sig 4 cs t → (r : Bool) → (r ≡ true → Greater rank s t) → (Greater rank s t → r ≡ true) → path_grade sig rank bs cs ≡ cond r 0 1
  path_grade_by bs cs s t a b x y r to from = grade_of_terms sig (λ s t. cond (greater rank s t) 0 1) bs cs s t a b x y ∙ ap (λ v. cond v 0 1) (same r refl)
    where
      same : (v : Bool) → r ≡ v → greater rank s t ≡ v
      same true e = to_true (greater rank s t) (greater_complete rank (to e))
      same false e = go (greater rank s t) refl
        where
          go : (w : Bool) → greater rank s t ≡ w → w ≡ false
          go true d = absurd (true≢false (sym (from (greater_sound rank s t (from_true (greater rank s t) d))) ∙ e))
          go false d = refl

pub path_order_keeps_the_laws : PathOrderKeepsTheLaws
path_order_keeps_the_laws sig rank =
    bytes_keep_the_laws sig (λ s t. cond (greater rank s t) 0 1) (Greater rank) (λ s t. zero_or_one sig rank (greater rank s t)) (λ s t x y. zero_over sig rank s t) (path_reduction sig rank)
