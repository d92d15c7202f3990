-- Runs of judge calls, and the laws over them.
use Rattle.std.specs.Prelude.{◌≡◌, ℕ, ◌<◌, ◌⊎◌, ◌↔◌, List, [], ◌∷◌, length}
use Rattle.terms.specs.Term.{Term, Rule}
use Rattle.terms.specs.Prefix.{Arities, WellSorted}
use Rattle.rewriting.specs.Relation.{Conversion, NormalForm, OneNormalForm}
use Rattle.rewriting.specs.Rewrite.{Step, StepOf}
use Rattle.judge.specs.declared.triple.Triple.{Triple}
use Rattle.judge.specs.declared.progress.Progress.{Progress}
use Rattle.judge.specs.declared.fault.NextFault.{NextFault}
use Rattle.judge.specs.declared.fault.ShowFault.{ShowFault}
use Rattle.judge.specs.declared.fault.SettleFault.{SettleFault}
use Rattle.judge.specs.Orient.{SameSignature, rule_grade, Falls}
use Rattle.judge.specs.Overlaps.{IsOverlap, JoinsWithin}
use Rattle.judge.specs.Calls.{start, Opens, NextRefused, Shows, ShowRefused, Settles, SettleRefused, Seals}

-- a call with what it is handed: a ticket by its triple, two lists of steps, and a page by its length
pub data Call : Type 0 where
  next : Call
  show : Triple → List ℕ → List ℕ → ℕ → Call
  settle : Triple → Call
  seal : Call

-- lists of steps are bytes
abbrev pub AllBytes : List ℕ → Type 0
AllBytes [] = Unit {0}
AllBytes (b ∷ bs) = (b < 256) × AllBytes bs

abbrev pub InBytes : List Call → Type 0
InBytes [] = Unit {0}
InBytes (next ∷ cs) = InBytes cs
InBytes (show t os is page ∷ cs) = AllBytes os × AllBytes is × InBytes cs
InBytes (settle t ∷ cs) = InBytes cs
InBytes (seal ∷ cs) = InBytes cs

-- one call, accepted or refused, takes a judge from s to `after`
abbrev pub Moves : List Rule → Progress → Call → Progress → Type 0
Moves rs s next after = ((t : Triple) × Opens rs s t after) ⊎ ((e : NextFault) × NextRefused rs s e × (after ≡ s))
Moves rs s (show t os is page) after = Shows rs s t os is page after ⊎ ((e : ShowFault) × ShowRefused rs s t os is page e × (after ≡ s))
Moves rs s (settle t) after = Settles s t after ⊎ ((e : SettleFault) × SettleRefused s t e × (after ≡ s))
Moves rs s seal after = after ≡ s

-- calls one after the other
abbrev pub Run : List Rule → List Call → Progress → Progress → Type 0
Run rs [] s after = after ≡ s
Run rs (c ∷ cs) s after = (m : Progress) × Moves rs s c m × Run rs cs m after

-- Some run of judge calls seals a book: it begins with an accepted orient by the order, and ends with an accepted seal.
pub record SealedBy (order : Arities) (grade : List ℕ → List ℕ → ℕ) (sig : Arities) (rs : List Rule) (calls : List Call) : Type 0 where
  pub in_bytes : InBytes calls
  pub oriented : Falls order grade sig rs
  pub end : Progress
  pub run : Run rs calls start end
  pub seals : Seals rs end

-- Each ground term has exactly one normal form, and two are convertible exactly if these are equal.
abbrev pub OneFoldedForm : Arities → List Rule → Type 0
OneFoldedForm sig rs =
    (t u : Term) → WellSorted sig 0 t → WellSorted sig 0 u
    → OneNormalForm (Step rs) t
    × ((n m : Term) → NormalForm (Step rs) t n → NormalForm (Step rs) u m → Conversion (StepOf sig 8 rs) t u ↔ (n ≡ m))

-- Whatever run seals a book, it has that.
abbrev pub SealingIsSound : Arities → (List ℕ → List ℕ → ℕ) → Arities → List Rule → Type 0
SealingIsSound order grade sig rs = (calls : List Call) → SealedBy order grade sig rs calls → OneFoldedForm sig rs

-- If the order's signature is the book's, some run seals it exactly if each rule grades 0 through the fence and each overlap joins within the limits.
abbrev pub SealingIsComplete : Arities → (List ℕ → List ℕ → ℕ) → Arities → List Rule → Type 0
SealingIsComplete order grade sig rs =
    SameSignature order sig
    → ((calls : List Call) × SealedBy order grade sig rs calls)
    ↔ (((i : ℕ) → i < length rs → rule_grade grade rs i ≡ 0) × ((t : Triple) → IsOverlap rs t → JoinsWithin rs t))
