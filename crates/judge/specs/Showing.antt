-- One told step, and one list of told steps: what is answered.
use Rattle.std.specs.Prelude.{◌≡◌, ℕ, ◌<◌, ◌≤◌, List, Ok, Err, Result}
use Rattle.std.specs.List.{concat}
use Rattle.terms.specs.Term.{Term, Rule, size}
use Rattle.terms.specs.Prefix.{Arities, Reads}
use Rattle.rewriting.specs.Rewrite.{StepAt}
use Rattle.unification.specs.declared.written.Codes.{Codes}
use Rattle.unification.specs.Written.{bytes_of}
use Rattle.stepping.specs.declared.outcome.RewriteFault.{RewriteFault}
use Rattle.stepping.specs.declared.outcome.RewriteFault.TheVariants as fault
use Rattle.judge.specs.declared.fault.Side.{Side}
use Rattle.judge.specs.declared.fault.ShowFault.{ShowFault}
use Rattle.judge.specs.declared.fault.ShowFault.TheVariants as show
use Rattle.judge.specs.Overlaps.{most_symbols, Leads, ListFits}
use Rattle.judge.specs.Calls.{MatchesAt, NoMatchAt, TooLongAt}

-- a list of bytes that may be told is these steps, a rule and a place for each
pub record Tells (list : List ℕ) (steps : List (List ℕ)) : Type 0 where
  pub fits : ListFits list
  pub joined : concat steps ≡ list

-- A step of the rule k at the place p of t. If it is done, its result is written.
abbrev pub ToldStep : Arities → List Rule → ℕ → ℕ → Term → Result (Codes 255) RewriteFault → Type 0
ToldStep sig rs k p t (Err fault.NoTerm) = ⊥
ToldStep sig rs k p t (Err fault.NoMatch) = MatchesAt rs k p t → ⊥
ToldStep sig rs k p t (Err fault.NoRoom) = (u : Term) × StepAt rs k p t u × (most_symbols < size u)
ToldStep sig rs k p t (Ok w) = (u : Term) × StepAt rs k p t u × (size u ≤ most_symbols) × Reads sig 8 (bytes_of w) u

-- the steps lead from t to the term that is written
abbrev pub EndsAt : Arities → List Rule → List ℕ → Term → Codes 255 → Type 0
EndsAt sig rs steps t w = (u : Term) × Leads rs steps t u × Reads sig 8 (bytes_of w) u

-- the list of a side fails at a step
abbrev pub StepFails : List Rule → List ℕ → Term → Side → ShowFault → Type 0
StepFails rs steps t side show.ShortPage = ⊥
StepFails rs steps t side show.OtherTicket = ⊥
StepFails rs steps t side show.BadLists = ⊥
StepFails rs steps t side (show.NoMatch s n) = (s ≡ side) × NoMatchAt rs steps n t
StepFails rs steps t side (show.TooLong s n) = (s ≡ side) × TooLongAt rs steps n t
StepFails rs steps t side show.EndsDiffer = ⊥

-- how a side's list fails at a step that is not done
abbrev pub told_fault_of : RewriteFault → Side → ℕ → ShowFault
told_fault_of fault.NoTerm side n = show.NoMatch side n
told_fault_of fault.NoMatch side n = show.NoMatch side n
told_fault_of fault.NoRoom side n = show.TooLong side n

-- the two lists lead from two terms to one
abbrev pub OneEnd : List Rule → List ℕ → List ℕ → Term → Term → Type 0
OneEnd rs outer_list inner_list a b = (end : Term) × Leads rs outer_list a end × Leads rs inner_list b end
