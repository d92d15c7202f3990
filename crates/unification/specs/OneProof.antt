-- What is known of a forest, its classes and its bindings has one proof at most.
use Rattle.std.proofs.Common.{◌≡◌, ℕ, ◌+◌, List, [], length, get_or, sym, refl, ap, ◌∙◌, append-nil}
use mathlib.Core.HLevel.{hedberg, is_prop→PathP}
use native.Mathlib.Bridge.{le_prop}
use native.Mathlib.Decide.{ℕ_discrete}
use Rattle.terms.specs.Term.{nil, cons, Terms, size}
use Rattle.terms.specs.Prefix.{Arities, WellSorted, prefix, terms_of}
use Rattle.terms.proofs.Reading.{join, terms_of_prefix}
use Rattle.terms.proofs.Sorts.{well_sorted_prop, bytes_set}
use Rattle.unification.specs.Standing.{IsForest, Laid}
use Rattle.unification.specs.Classes.{Classes, Bindings}

ℕ_set : IsSet ℕ
ℕ_set = hedberg ℕ_discrete

join_nil : (ts : Terms) → join ts nil ≡ ts
join_nil nil = refl
join_nil (cons t ts) = ap (cons t) (join_nil ts)

-- the terms that the codes are, are those that they read as
terms_back : (sig : Arities) (g : List ℕ) (f : IsForest sig g) → terms_of sig g ≡ f.0
terms_back sig g f = ap (terms_of sig) (f.2 ∙ sym (append-nil (prefix f.0))) ∙ terms_of_prefix sig 8 f.0 [] f.1 ∙ join_nil f.0

forest_prop : (sig : Arities) (g : List ℕ) → IsProp (IsForest sig g)
forest_prop sig g a b = λ i. (
  same i,
  is_prop→PathP (λ j. WellSorted sig 8 (same j)) (λ j. well_sorted_prop sig 8 (same j)) a.1 b.1 i,
  is_prop→PathP (λ j. g ≡ prefix (same j)) (λ j. bytes_set g (prefix (same j))) a.2 b.2 i,
)
  where
    same : a.0 ≡ b.0
    same = sym (terms_back sig g a) ∙ terms_back sig g b

pub laid_prop : (sig : Arities) (g end : List ℕ) → IsProp (Laid sig g end)
laid_prop sig g end a b = λ k. record {
  terms = forest_prop sig g a.terms b.terms k;
  few = le_prop a.few b.few k;
  room = ℕ_set (length end) (length g) a.room b.room k;
  ends = λ i t s. ℕ_set (get_or end i 0) (i + size t) (a.ends i t s) (b.ends i t s) k;
}

pub classes_prop : (g rep : List ℕ) → IsProp (Classes g rep)
classes_prop g rep a b = λ k. record {
  as_many = ℕ_set (length rep) (length g) a.as_many b.as_many k;
  inside = λ i h. le_prop (a.inside i h) (b.inside i h) k;
  own = λ i h. ℕ_set (get_or rep (get_or rep i 0) 0) (get_or rep i 0) (a.own i h) (b.own i h) k;
  symbol = λ i h s. ℕ_set (get_or g (get_or rep i 0) 0) (get_or g i 0) (a.symbol i h s) (b.symbol i h s) k;
  shared = λ i j h l v e. ℕ_set (get_or rep i 0) (get_or rep j 0) (a.shared i j h l v e) (b.shared i j h l v e) k;
}

pub bindings_prop : (sig : Arities) (g rep rank : List ℕ) → IsProp (Bindings sig g rep rank)
bindings_prop sig g rep rank a b = λ k. record {
  as_many = ℕ_set (length rank) (length g) a.as_many b.as_many k;
  classes = classes_prop g rep a.classes b.classes k;
  ordered = λ i j t p s h l m v w. (le_prop (a.ordered i j t p s h l m v w).0 (b.ordered i j t p s h l m v w).0 k, le_prop (a.ordered i j t p s h l m v w).1 (b.ordered i j t p s h l m v w).1 k);
  ranked = λ i h s. le_prop (a.ranked i h s) (b.ranked i h s) k;
  small = λ i. le_prop (a.small i) (b.small i) k;
}
