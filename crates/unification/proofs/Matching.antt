-- What is known of an Option, turned into something else.
use Rattle.std.proofs.Common.{Bool, true, false, T, Some, None, Option, MatchOption}
use Rattle.std.specs.Bool.{then_some}

pub match_map : {A N N' : Type 0} {P P' : A → Type 0} (o : Option A) → (N → N') → ((a : A) → P a → P' a) → MatchOption o N P → MatchOption o N' P'
match_map None f g h = f h
match_map (Some a) f g h = g a h

-- a value where a test says yes, and None where it says no
pub match_then_some : {A N P : Type 0} (b : Bool) (x : A) → ((T b → ⊥) → N) → (T b → P) → MatchOption (then_some b x) N (λ _. P)
match_then_some true x f g = g tt
match_then_some false x f g = f (λ t. t)
