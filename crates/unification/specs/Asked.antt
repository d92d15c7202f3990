-- What is asked about two rules: whether they overlap at a place.
use Rattle.std.specs.Prelude.{ℕ, ◌<◌, List, length, slice_index_or}
use Rattle.terms.specs.Term.{Rule}
use Rattle.terms.specs.Prefix.{Arities, term_of}
use Rattle.terms.specs.Side.{IsSide}

-- the rule with the sides that the bytes read as
abbrev pub rule_of : Arities → List ℕ → List ℕ → Rule
rule_of sig l r = record { left = term_of sig l; right = term_of sig r }

-- l and r are the sides of a rule, and so are l' and r'; and at the place p of l no variable stands
pub record Asked (sig : Arities) (l r : List ℕ) (p : ℕ) (l' r' : List ℕ) : Type 0 where
  pub first_left : IsSide sig l
  pub first_right : IsSide sig r
  pub second_left : IsSide sig l'
  pub second_right : IsSide sig r'
  pub inside : p < length l
  pub symbol : slice_index_or l p 0 < 128
