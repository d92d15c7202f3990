-- The sides of rules.
use Rattle.std.specs.Prelude.{ℕ, ◌≤◌, List, length}
use Rattle.terms.specs.Prefix.{Arities, IsTerm}

-- the bytes are a side of a rule: 1 to 32 bytes, which are one term of the signature with the variables 80 to 83
pub record IsSide (sig : Arities) (bs : List ℕ) : Type 0 where
  pub some : 1 ≤ length bs
  pub most : length bs ≤ 32
  pub term : IsTerm sig 4 bs
