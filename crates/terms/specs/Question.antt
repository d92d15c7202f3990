-- How a call asks its questions: in sequence, and the first "no" decides.
use Rattle.std.specs.Prelude.{◌≡◌, ℕ, ◌⊎◌, List, [], ◌∷◌}

-- a question: its number, and what it asks
pub record Question : Type 1 where
  pub number : ℕ
  pub asks : Type 0

-- every question is answered with yes
abbrev pub AllYes : List Question → Type 0
AllYes [] = Unit {0}
AllYes (q ∷ qs) = q.asks × AllYes qs

-- the first question that is answered with no, after a yes to all before it, has the number n
abbrev pub FirstNo : List Question → ℕ → Type 0
FirstNo [] n = ⊥
FirstNo (q ∷ qs) n = ((q.asks → ⊥) × (n ≡ q.number)) ⊎ (q.asks × FirstNo qs n)
