-- What is proved of the orders; each statement stands on the contract of a function of src/theorems.rt.
use Rattle.std.specs.Prelude.{◌≡◌, ℕ, ◌<◌, ◌↔◌, List, ◌≢◌}
use Rattle.terms.specs.Term.{node, var, Term, Terms, Occurs}
use Rattle.terms.specs.Prefix.{Arities}
use Rattle.polynomials.specs.Interpretation.{Interpretation, Proper, Over}
use Rattle.order_theory.specs.Path.{Greater, SomeAtLeast, GreaterThanAll, FirstGreater}
use Rattle.order_theory.specs.Grade.{path_grade, polynomial_grade}
use Rattle.order_theory.specs.Laws.{OrderLaws}

-- In words: s is greater than t if t is a variable in s and differs from s; or some argument of s is greater than or the same as t; or s is greater
-- than all arguments of t and either its head has the higher rank, or the heads are one symbol and the first differing argument is greater in s.
pub data InWords (rank : ℕ → ℕ) (s t : Term) : Type 0 where
  variable : (x : ℕ) → t ≡ var x → Occurs x s → (s ≢ t) → InWords rank s t
  argument : (f : ℕ) (ss : Terms) → s ≡ node f ss → SomeAtLeast rank ss t → InWords rank s t
  higher_head : (f g : ℕ) (ss ts : Terms) → s ≡ node f ss → t ≡ node g ts → GreaterThanAll rank s ts → rank g < rank f → InWords rank s t
  same_head : (f : ℕ) (ss ts : Terms) → s ≡ node f ss → t ≡ node f ts → GreaterThanAll rank s ts → FirstGreater rank ss ts → InWords rank s t

abbrev pub PathOrderInWords : Type 0
PathOrderInWords = (rank : ℕ → ℕ) (s t : Term) → Greater rank s t ↔ InWords rank s t

-- the path order is transitive, and no term is greater than itself
abbrev pub PathOrderIsStrict : Type 0
PathOrderIsStrict =
    (rank : ℕ → ℕ) → ((s t u : Term) → Greater rank s t → Greater rank t u → Greater rank s u) × ((t : Term) → Greater rank t t → ⊥)

-- it keeps the laws of an order, whatever the signature and the ranks
abbrev pub PathOrderKeepsTheLaws : Type 0
PathOrderKeepsTheLaws = (sig : Arities) (rank : ℕ → ℕ) → OrderLaws sig (path_grade sig rank) (Greater rank)

-- The polynomials of a proper interpretation keep them as well.
abbrev pub PolynomialOrderKeepsTheLaws : Type 0
PolynomialOrderKeepsTheLaws =
    (sig : Arities) (interpretation : Interpretation) → Proper sig interpretation
    → OrderLaws sig (polynomial_grade sig interpretation) (Over interpretation)

-- Orders with equal figures grade alike: the grades depend on nothing but the arities and the ranks, or the arities and the polynomials.
abbrev pub EqualRanksGradeAlike : Type 0
EqualRanksGradeAlike =
    (sig sig' : Arities) (rank rank' : ℕ → ℕ) → ((c : ℕ) → sig c ≡ sig' c) → ((c : ℕ) → rank c ≡ rank' c)
    → (bs cs : List ℕ) → path_grade sig rank bs cs ≡ path_grade sig' rank' bs cs

abbrev pub EqualPolynomialsGradeAlike : Type 0
EqualPolynomialsGradeAlike =
    (sig sig' : Arities) (interpretation interpretation' : Interpretation) → ((c : ℕ) → sig c ≡ sig' c) → ((c : ℕ) → interpretation c ≡ interpretation' c)
    → (bs cs : List ℕ) → polynomial_grade sig interpretation bs cs ≡ polynomial_grade sig' interpretation' bs cs
