-- What is known of an Option, when None becomes an error.
use Rattle.std.proofs.Common.{Some, None, Option, MatchOption, MatchResult}
use Rattle.std.specs.Option.{ok_or}

pub match_ok_or : {A E N Q R : Type 0} (P : E → Type 0) (o : Option A) (e : E) → (N → P e) → (Q → R) → MatchOption o N (λ _. Q) → MatchResult (ok_or o e) (λ _. R) P
match_ok_or P None e f g h = f h
match_ok_or P (Some a) e f g h = g h
