-- Well-sortedness: it has one proof at most, and it stays where symbols are added.
use Rattle.std.proofs.Common.{◌≡◌, ℕ, List, Some, None, Option, refl, ap, arith}
use mathlib.Core.HLevel.{Discrete, hedberg, ×_prop, ×₃_prop, Unit-prop}
use mathlib.Core.List.{List-discrete}
use native.Mathlib.Bridge.{le_prop}
use native.Mathlib.Decide.{ℕ_discrete}
use Rattle.terms.specs.Term.{Kind, Tree, var, node, nil, cons, Term, how_many}
use Rattle.terms.specs.Prefix.{Arities, prefix, WellSorted, Reads}

option_discrete : Discrete (Option ℕ)
option_discrete None None = yes refl
option_discrete None (Some n) = no (λ e. let z : ◌≡◌ {A = ℕ} 0 1 = cc in omega arith)
option_discrete (Some m) None = no (λ e. let z : ◌≡◌ {A = ℕ} 0 1 = cc in omega arith)
option_discrete (Some m) (Some n) = by (ℕ_discrete m n)
  where
    by : Dec (m ≡ n) → Dec (◌≡◌ {A = Option ℕ} (Some m) (Some n))
    by (yes e) = yes (ap {B = Option ℕ} Some e)
    by (no d) = no (λ e. d (cc))

pub option_set : IsSet (Option ℕ)
option_set = hedberg option_discrete

pub well_sorted_prop : {k : Kind} (sig : Arities) (n : ℕ) (t : Tree k) → IsProp (WellSorted sig n t)
well_sorted_prop sig n (var x) = ×_prop le_prop le_prop
well_sorted_prop sig n (node f ts) = ×₃_prop le_prop (option_set (sig f) (Some (how_many ts))) (well_sorted_prop sig n ts)
well_sorted_prop sig n nil = Unit-prop
well_sorted_prop sig n (cons t ts) = ×_prop (well_sorted_prop sig n t) (well_sorted_prop sig n ts)

pub bytes_set : IsSet (List ℕ)
bytes_set = hedberg (List-discrete ℕ_discrete)

pub reads_prop : (sig : Arities) (n : ℕ) (bs : List ℕ) (t : Term) → IsProp (Reads sig n bs t)
reads_prop sig n bs t a b = λ i. record { sorted = well_sorted_prop sig n t a.sorted b.sorted i; form = bytes_set (prefix t) bs a.form b.form i }

-- a term of a signature is one of every larger signature
pub sorted_more : {k : Kind} (sig more : Arities) (n : ℕ) → ((c a : ℕ) → sig c ≡ Some a → more c ≡ Some a) → (t : Tree k) → WellSorted sig n t → WellSorted more n t
sorted_more sig more n h (var x) w = w
sorted_more sig more n h (node f ts) w = (w.0, h f (how_many ts) w.1, sorted_more sig more n h ts w.2)
sorted_more sig more n h nil w = tt
sorted_more sig more n h (cons t ts) w = (sorted_more sig more n h t w.0, sorted_more sig more n h ts w.1)
