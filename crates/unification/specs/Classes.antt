-- Unification closure: the offsets of a list of codes in classes of terms that every unifier makes equal.
use Rattle.std.specs.Prelude.{◌≡◌, ℕ, ◌+◌, ◌<◌, ◌≤◌, cond, ◌⊎◌, List, length, ◌==◌, slice_index, slice_index_or}
use Rattle.rewriting.specs.Unify.{Unifier, IsMgu, NotUnifiable}
use Rattle.terms.specs.Term.{Term, Terms, var, node, nil, cons, Subst, sub, size}
use Rattle.terms.specs.Prefix.{Arities, WellSorted}
use Rattle.unification.specs.Standing.{Stands}

-- A table `rep` of representatives: entry i is the offset that stands for the class of i.
pub record Classes (g rep : List ℕ) : Type 0 where
  pub as_many : length rep ≡ length g
  pub inside : (i : ℕ) → i < length g → slice_index rep i < length g
  pub own : (i : ℕ) → i < length g → slice_index rep (slice_index rep i) ≡ slice_index rep i
  -- a symbol is represented by the same symbol
  pub symbol : (i : ℕ) → i < length g → slice_index g i < 128 → slice_index g (slice_index rep i) ≡ slice_index g i
  -- the occurrences of a variable are in one class
  pub shared : (i j : ℕ) → i < length g → j < length g → 128 ≤ slice_index g i → slice_index g i ≡ slice_index g j → slice_index rep i ≡ slice_index rep j

-- σ makes the terms of each class equal
abbrev pub Equates : Arities → List ℕ → List ℕ → Subst → Type 0
Equates sig g rep σ = (i : ℕ) (s t : Term) → Stands sig g i s → Stands sig g (slice_index rep i) t → sub σ s ≡ sub σ t

-- the terms ss from the offset a on and the terms ts from b on are, one by one, in the same classes
abbrev pub SameClasses : List ℕ → ℕ → ℕ → Terms → Terms → Type 0
SameClasses rep a b nil nil = Unit {0}
SameClasses rep a b nil (cons t ts) = ⊥
SameClasses rep a b (cons s ss) nil = ⊥
SameClasses rep a b (cons s ss) (cons t ts) = (slice_index rep a ≡ slice_index rep b) × SameClasses rep (a + size s) (b + size t) ss ts

-- the arguments at i and at r are in the same classes
abbrev pub ClosedAt : Arities → List ℕ → List ℕ → ℕ → ℕ → Type 0
ClosedAt sig g rep i r = (e f : ℕ) (ss ts : Terms) → Stands sig g i (node e ss) → Stands sig g r (node f ts) → SameClasses rep (i + 1) (r + 1) ss ts

-- if two terms are in one class, so are their arguments
abbrev pub Closed : Arities → List ℕ → List ℕ → Type 0
Closed sig g rep = (i : ℕ) → i < length g → slice_index g i < 128 → ClosedAt sig g rep i (slice_index rep i)

-- a and b are in different classes, but what makes the terms at i and r equal makes those at a and b equal
pub record Split (sig : Arities) (g rep : List ℕ) (i r a b : ℕ) : Type 0 where
  pub left_inside : a < length g
  pub right_inside : b < length g
  pub apart : ¬ (slice_index rep a ≡ slice_index rep b)
  pub forced : (σ : Subst) (s t u v : Term) → Stands sig g i s → Stands sig g r t → sub σ s ≡ sub σ t → Stands sig g a u → Stands sig g b v → sub σ u ≡ sub σ v

-- each entry `lose` has become `keep`
abbrev pub Relabelled : ℕ → ℕ → List ℕ → List ℕ → Type 0
Relabelled lose keep old new = (i : ℕ) → i < length old → slice_index new i ≡ cond (slice_index old i == lose) keep (slice_index old i)

-- Of the classes of the representatives x and y one has become part of the other. It is one of a variable, or they have the same symbol.
pub record Merged (g old new : List ℕ) (x y : ℕ) : Type 0 where
  pub lose : ℕ
  pub keep : ℕ
  pub either : ((lose ≡ x) × (keep ≡ y)) ⊎ ((lose ≡ y) × (keep ≡ x))
  pub relabelled : Relabelled lose keep old new
  pub symbol : slice_index_or g lose 0 < 128 → slice_index g keep ≡ slice_index g lose

-- at x and y stand different symbols
pub record Clash (g : List ℕ) (x y : ℕ) : Type 0 where
  pub left : slice_index_or g x 0 < 128
  pub right : slice_index_or g y 0 < 128
  pub differ : ¬ (slice_index g x ≡ slice_index g y)

-- at the start the offset i is represented by r: itself, or the first occurrence of the variable
pub record Initial (g : List ℕ) (i r : ℕ) : Type 0 where
  pub inside : r < length g
  pub code : slice_index_or g r 0 ≡ slice_index g i
  pub symbol : slice_index_or g i 0 < 128 → r ≡ i
  pub first : 128 ≤ slice_index g i → (k : ℕ) → k < r → ¬ (slice_index g k ≡ slice_index g i)

-- The classes `new` come from `old` by merging: what makes the terms of the old ones equal does so for the new.
pub record Progress (sig : Arities) (g old new : List ℕ) : Type 0 where
  pub classes : Classes g new
  pub keeps : (σ : Subst) → Equates sig g old σ → Equates sig g new σ
  pub same : (i j : ℕ) → i < length g → j < length g → slice_index old i ≡ slice_index old j → slice_index new i ≡ slice_index new j

-- no substitution makes the terms of each class equal
abbrev pub NoSolution : Arities → List ℕ → List ℕ → Type 0
NoSolution sig g rep = (σ : Subst) → ¬ Equates sig g rep σ

-- ── the order of the classes ──

-- Each variable's code from the offset `from` up to `to` is in the class of a variable, or in that of a symbol that has a rank.
abbrev pub Ready : List ℕ → List ℕ → List ℕ → ℕ → ℕ → Type 0
Ready g rep rank from to = (j : ℕ) → from ≤ j → j < to → 128 ≤ slice_index g j → slice_index g (slice_index rep j) < 128 → 0 < slice_index rank (slice_index rep j)

-- one of them is in the class of a symbol that has no rank
pub record Waits (g rep rank : List ℕ) (from to : ℕ) : Type 0 where
  pub at_offset : ℕ
  pub not_before : from ≤ at_offset
  pub not_behind : at_offset < to
  pub variable : 128 ≤ slice_index g at_offset
  pub bound : slice_index_or g (slice_index rep at_offset) 0 < 128
  pub unranked : slice_index_or rank (slice_index rep at_offset) 0 ≡ 0

-- the symbol at i has no rank yet
pub record Unranked (g rank : List ℕ) (i : ℕ) : Type 0 where
  pub inside : i < length g
  pub symbol : slice_index_or g i 0 < 128
  pub none : slice_index_or rank i 0 ≡ 0

-- A symbol that has a rank is above those in whose classes the variables of its term are.
abbrev pub Ordered : Arities → List ℕ → List ℕ → List ℕ → Type 0
Ordered sig g rep rank = (i j : ℕ) (t : Term) → 0 < slice_index rank i → slice_index g i < 128 → Stands sig g i t → i ≤ j → j < i + size t → 128 ≤ slice_index g j → slice_index g (slice_index rep j) < 128 → (0 < slice_index rank (slice_index rep j)) × (slice_index rank (slice_index rep j) < slice_index rank i)

-- every symbol has a rank
abbrev pub AllRanked : List ℕ → List ℕ → Type 0
AllRanked g rank = (i : ℕ) → i < length g → slice_index g i < 128 → 0 < slice_index rank i

-- every symbol that has no rank waits for another
abbrev pub Stuck : List ℕ → List ℕ → List ℕ → List ℕ → Type 0
Stuck g end rep rank = (i : ℕ) → Unranked g rank i → Waits g rep rank i (slice_index end i)

-- μ solves the equations between the variables and the terms of their classes, and leaves all else unbound.
pub record Solves (sig : Arities) (g rep : List ℕ) (μ : Subst) : Type 0 where
  -- a variable is bound to the term that represents its class
  pub bound : (j : ℕ) (t : Term) → j < length g → 128 ≤ slice_index g j → Stands sig g (slice_index rep j) t → μ (slice_index g j) ≡ sub μ t
  -- or, if that is a variable, to it
  pub root : (j : ℕ) → j < length g → 128 ≤ slice_index g j → 128 ≤ slice_index g (slice_index rep j) → μ (slice_index g j) ≡ var (slice_index g (slice_index rep j))
  -- a code that is no variable of g
  pub free : (x : ℕ) → ((j : ℕ) → j < length g → ¬ (slice_index g j ≡ x)) → μ x ≡ var x

-- What `rep` and `rank` are for the writing of terms: a triangular substitution.
pub record Bindings (sig : Arities) (g rep rank : List ℕ) : Type 0 where
  pub as_many : length rank ≡ length g
  pub classes : Classes g rep
  pub ordered : Ordered sig g rep rank
  pub ranked : AllRanked g rank
  pub small : (i : ℕ) → slice_index rank i ≤ 128

-- The terms at p and q are unified by μ, which `rep` and `rank` describe.
pub record Unified (sig : Arities) (g rep rank : List ℕ) (p q : ℕ) : Type 0 where
  pub bindings : Bindings sig g rep rank
  pub μ : Subst
  pub solves : Solves sig g rep μ
  pub mgu : (s t : Term) → Stands sig g p s → Stands sig g q t → IsMgu μ s t
  -- and makes terms of the signature of its variables
  pub sorted : (x : ℕ) → 128 ≤ x → x < 136 → WellSorted sig 8 (μ x)

abbrev pub NotUnified : Arities → List ℕ → ℕ → ℕ → Type 0
NotUnified sig g p q = (s t : Term) → Stands sig g p s → Stands sig g q t → NotUnifiable s t

-- The classes with which the closure begins: those of p and q are one, and every unifier of their terms makes the terms of each class equal.
pub record Begun (sig : Arities) (g rep : List ℕ) (p q : ℕ) : Type 0 where
  pub classes : Classes g rep
  pub joined : slice_index_or rep p 0 ≡ slice_index rep q
  pub equates : (s t : Term) → Stands sig g p s → Stands sig g q t → (σ : Subst) → Unifier σ s t → Equates sig g rep σ
