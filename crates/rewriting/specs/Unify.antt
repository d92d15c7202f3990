-- Unification, and the overlaps of left sides.
use Rattle.std.specs.Prelude.{◌≡◌, ℕ, suc, ◌+◌, ◌<◌, ◌≤◌, Bool, true, false, cond, ◌⊎◌, List, [], ◌∷◌, ◌++◌, length, ◌==◌}
use Rattle.terms.specs.Term.{Kind, Tree, var, node, nil, cons, Term, Rule, rule_at, Subst, sub, Occurs, IsNode, size}
use Rattle.terms.specs.Place.{part, replace}
use Rattle.rewriting.specs.Relation.{Joinable}
use Rattle.rewriting.specs.Rewrite.{Step}

-- σ is a unifier of s and t: it makes them equal
abbrev pub Unifier : {k : Kind} → Subst → Tree k → Tree k → Type 0
Unifier σ s t = sub σ s ≡ sub σ t

-- μ is a most general unifier of s and t: every unifier factors through it
pub record IsMgu {k : Kind} (μ : Subst) (s t : Tree k) : Type 0 where
  pub unifies : Unifier μ s t
  pub general : (σ : Subst) → Unifier σ s t → (δ : Subst) × ((x : ℕ) → σ x ≡ sub δ (μ x))

-- s and t have no unifier
abbrev pub NotUnifiable : {k : Kind} → Tree k → Tree k → Type 0
NotUnifiable s t = (σ : Subst) → Unifier σ s t → ⊥

-- The variables of rules are the four from 128 on. Those of the second rule of an overlap are made distinct from those of the first: the next four.
abbrev pub distinct : {k : Kind} → Tree k → Tree k
distinct t = sub (λ x. var (x + 4)) t

abbrev pub FourVariables : List Rule → Type 0
FourVariables rs = (i x : ℕ) → i < length rs → Occurs x (rule_at rs i).left → (128 ≤ x) × (x < 132)

-- The overlap (i, p, j): the part at p of left side i is no variable and unifies with left side j made distinct. At the root only i < j counts.
pub record Overlap (rs : List Rule) (i p j : ℕ) : Type 0 where
  pub first_rule : i < length rs
  pub second_rule : j < length rs
  pub inside : p < size (rule_at rs i).left
  pub no_variable : IsNode (part (rule_at rs i).left p)
  pub unifier : Subst
  pub unifies : Unifier unifier (part (rule_at rs i).left p) (distinct (rule_at rs j).left)
  pub proper : p ≡ 0 → i < j

-- ── variables by first appearance ──

abbrev pub is_in : ℕ → List ℕ → Bool
is_in x [] = false
is_in x (y ∷ ys) = cond (x == y) true (is_in x ys)

-- the variables of t in the sequence of their first appearance, behind those that were seen before
abbrev pub seen : {k : Kind} → List ℕ → Tree k → List ℕ
seen before (var x) = cond (is_in x before) before (before ++ x ∷ [])
seen before (node f ts) = seen before ts
seen before nil = before
seen before (cons t ts) = seen (seen before t) ts

-- how many stand before x in the list
abbrev pub index : ℕ → List ℕ → ℕ
index x [] = 0
index x (y ∷ ys) = cond (x == y) 0 (suc (index x ys))

-- the variables are renumbered 128, 129, .. as they first appear in t
abbrev pub renumbering : Term → Subst
renumbering t x = var (128 + index x (seen [] t))

-- ── critical pairs ──

-- left side i with the occurrence at p replaced by right side j made distinct
abbrev pub replaced_at : List Rule → ℕ → ℕ → ℕ → Term
replaced_at rs i p j = replace (rule_at rs i).left p (distinct (rule_at rs j).right)

-- The peak, the outer and the inner side of the overlap (i, p, j): left side i, right side i, and left side i with the occurrence at p replaced,
-- all under a most general unifier and with the variables renumbered by first appearance in the peak.
pub record CriticalPair (rs : List Rule) (i p j : ℕ) (peak outer inner : Term) : Type 0 where
  pub overlap : Overlap rs i p j
  pub μ : Subst
  pub mgu : IsMgu μ (part (rule_at rs i).left p) (distinct (rule_at rs j).left)
  pub peak_is : peak ≡ sub (renumbering (sub μ (rule_at rs i).left)) (sub μ (rule_at rs i).left)
  pub outer_is : outer ≡ sub (renumbering (sub μ (rule_at rs i).left)) (sub μ (rule_at rs i).right)
  pub inner_is : inner ≡ sub (renumbering (sub μ (rule_at rs i).left)) (sub μ (replaced_at rs i p j))

-- every overlap joins: its two sides are joinable
abbrev pub OverlapsJoin : List Rule → Type 0
OverlapsJoin rs = (i p j : ℕ) (peak outer inner : Term) → CriticalPair rs i p j peak outer inner → Joinable (Step rs) outer inner

-- ── the ascending list of overlaps ──

pub record Triple : Type 0 where
  pub i : ℕ
  pub p : ℕ
  pub j : ℕ

-- lexicographically smaller
abbrev pub Before : Triple → Triple → Type 0
Before a b = (a.i < b.i) ⊎ ((a.i ≡ b.i) × ((a.p < b.p) ⊎ ((a.p ≡ b.p) × (a.j < b.j))))

-- all of a list come behind a
abbrev pub AllBehind : Triple → List Triple → Type 0
AllBehind a [] = Unit {0}
AllBehind a (b ∷ bs) = Before a b × AllBehind a bs

abbrev pub Ascending : List Triple → Type 0
Ascending [] = Unit {0}
Ascending (a ∷ bs) = AllBehind a bs × Ascending bs

abbrev pub Listed : Triple → List Triple → Type 0
Listed a [] = ⊥
Listed a (b ∷ bs) = (a ≡ b) ⊎ Listed a bs

-- the ascending list of exactly the overlaps
pub record OverlapList (rs : List Rule) (ts : List Triple) : Type 0 where
  pub ascending : Ascending ts
  pub listed : (a : Triple) → Overlap rs a.i a.p a.j → Listed a ts
  pub overlaps : (a : Triple) → Listed a ts → Overlap rs a.i a.p a.j
