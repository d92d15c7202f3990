-- The theorems, each on the contract of a function of its own name in src/theorems.rt.
use Rattle.std.specs.Prelude.{◌≡◌, ℕ, ◌⊎◌, ◌↔◌, List}
use mathlib.Core.WellFounded.{Acc}
use Rattle.terms.specs.Term.{Kind, one, Tree, Term, Rule, Subst}
use Rattle.terms.specs.Prefix.{Arities, WellSorted}
use Rattle.rewriting.specs.Relation.{Conversion, LocallyConfluent, Confluent, ChurchRosser, Normal, NormalForm, OneNormalForm, Terminating}
use Rattle.rewriting.specs.Rewrite.{Step, StepOf, Proper, RulesOf, InnermostStep, InnermostSteps}
use Rattle.rewriting.specs.Unify.{IsMgu, NotUnifiable, FourVariables, CriticalPair, OverlapsJoin, Triple, OverlapList}
use Rattle.rewriting.specs.Order.{OverOf, Oriented}

-- A statement about one relation, made of rewriting with any rules on all terms, and on the terms of any signature.
abbrev pub OfRewriting : ((Term → Term → Type 0) → Type 0) → Type 0
OfRewriting P = (rs : List Rule) → P (Step rs) × ((sig : Arities) (vars : ℕ) → P (StepOf sig vars rs))

-- Newman's lemma: a terminating and locally confluent relation is confluent.
abbrev pub NewmansLemma : Type 0
NewmansLemma = OfRewriting (λ R. Terminating R → LocallyConfluent R → Confluent R)

-- A relation is confluent exactly if it is Church-Rosser.
abbrev pub ConfluentIffChurchRosser : Type 0
ConfluentIffChurchRosser = OfRewriting (λ R. Confluent R ↔ ChurchRosser R)

-- Terminating and confluent rules give each term exactly one normal form.
abbrev pub OneNormalFormTheorem : Type 0
OneNormalFormTheorem =
    (rs : List Rule) → Proper rs → Terminating (Step rs {k = one}) → Confluent (Step rs {k = one}) → (t : Term) → OneNormalForm (Step rs) t

-- Under confluence two elements are convertible exactly if their normal forms are equal.
abbrev pub ConvertibleIffSameNormalForm : Type 0
ConvertibleIffSameNormalForm =
    OfRewriting (λ R. Confluent R → (t u n m : Term) → NormalForm R t n → NormalForm R u m → Conversion R t u ↔ (n ≡ m))

-- Rules that are convergent on the terms of a signature with eight variables give each ground term exactly one normal form, and two ground terms
-- are convertible, through terms with variables too, exactly if their normal forms are equal.
abbrev pub ConvergentOnGroundTerms : Type 0
ConvergentOnGroundTerms =
    (sig : Arities) (rs : List Rule) → RulesOf sig 4 rs → Proper rs → Terminating (StepOf sig 8 rs) → Confluent (StepOf sig 8 rs)
    → (t u : Term) → WellSorted sig 0 t → WellSorted sig 0 u
    → OneNormalForm (Step rs) t
    × ((n m : Term) → NormalForm (Step rs) t n → NormalForm (Step rs) u m → Conversion (StepOf sig 8 rs) t u ↔ (n ≡ m))

-- Two terms have a most general unifier, or no unifier at all.
abbrev pub Unification : Type 0
Unification = (k : Kind) (s t : Tree k) → ((μ : Subst) × IsMgu μ s t) ⊎ NotUnifiable s t

-- The peak and the sides of an overlap do not depend on which most general unifier is taken.
abbrev pub OneCriticalPair : Type 0
OneCriticalPair =
    (rs : List Rule) → Proper rs → (i p j : ℕ) (a b c a' b' c' : Term)
    → CriticalPair rs i p j a b c → CriticalPair rs i p j a' b' c' → (a ≡ a') × (b ≡ b') × (c ≡ c')

-- The overlaps of rules make exactly one ascending list.
abbrev pub OneOverlapList : Type 0
OneOverlapList =
    (rs : List Rule) → ((ts : List Triple) × OverlapList rs ts) × ((ts us : List Triple) → OverlapList rs ts → OverlapList rs us → ts ≡ us)

-- The critical pair theorem: rules are locally confluent exactly if every overlap joins.
abbrev pub CriticalPairTheorem : Type 0
CriticalPairTheorem = (rs : List Rule) → Proper rs → FourVariables rs → LocallyConfluent (Step rs {k = one}) ↔ OverlapsJoin rs

-- Knuth and Bendix: terminating rules are confluent exactly if every overlap joins.
abbrev pub KnuthBendixTheorem : Type 0
KnuthBendixTheorem =
    (rs : List Rule) → Proper rs → FourVariables rs → Terminating (Step rs {k = one}) → Confluent (Step rs {k = one}) ↔ OverlapsJoin rs

-- Rules that terminate on the terms of a signature, and whose overlaps join, are confluent on them.
abbrev pub JoinedOverlapsSuffice : Type 0
JoinedOverlapsSuffice =
    (sig : Arities) (vars : ℕ) (rs : List Rule) → RulesOf sig 4 rs → Proper rs → Terminating (StepOf sig vars rs) → OverlapsJoin rs → Confluent (StepOf sig vars rs)

-- An innermost step is a step; there is one unless the term is a normal form; and there is only one.
abbrev pub InnermostStepTheorem : Type 0
InnermostStepTheorem =
    (rs : List Rule) (t : Term)
    → (((p k : ℕ) × (u : Term) × InnermostStep rs t p k u) ⊎ Normal (Step rs) t)
    × ((p k : ℕ) (u : Term) → InnermostStep rs t p k u → Step rs t u)
    × (Proper rs → (p q k j : ℕ) (u v : Term) → InnermostStep rs t p k u → InnermostStep rs t q j v → (p ≡ q) × (k ≡ j) × (u ≡ v))

-- Terminating rules have for each term a number of innermost steps after which it is in normal form.
abbrev pub InnermostStepsSuffice : Type 0
InnermostStepsSuffice =
    (rs : List Rule)
    → (Terminating (Step rs {k = one}) → (t : Term) → (n : ℕ) × (u : Term) × InnermostSteps rs n t u × Normal (Step rs) u)
    × ((sig : Arities) (vars : ℕ) → RulesOf sig 4 rs → Proper rs → Terminating (StepOf sig vars rs)
    → (t : Term) → WellSorted sig vars t → (n : ℕ) × (u : Term) × InnermostSteps rs n t u × Normal (Step rs) u)

-- Rules that fall in a reduction order terminate on every term of its signature.
abbrev pub OrientedRulesTerminate : Arities → (Term → Term → Type 0) → Type 0
OrientedRulesTerminate sig over = (rs : List Rule) → RulesOf sig 4 rs → Proper rs → Oriented over rs → Terminating (StepOf sig 8 rs)

-- Induction along a relation: a property that a term has whenever all terms it is over have it, holds of every term.
abbrev pub Induction : (Term → Term → Type 0) → (Term → Type 0) → Type 0
Induction R P = ((t : Term) → ((u : Term) → R t u → P u) → P t) → (t : Term) → P t

-- It gives accessibility, as the property of being accessible is such a property.
abbrev pub InductionGivesAccessibility : Arities → (Term → Term → Type 0) → Type 0
InductionGivesAccessibility sig over =
    Induction (OverOf sig over) (λ t. Acc (λ u t. OverOf sig over t u) t) → (t : Term) → Acc (λ u t. OverOf sig over t u) t
