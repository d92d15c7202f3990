-- How prefix bytes are read from the left: with the number of terms still owed.
use Rattle.std.specs.Prelude.{ℕ, ◌+◌, cond, Some, None, Option, nat_lt}
use Rattle.terms.specs.Prefix.{Arities}

-- how many terms are owed after a byte: as many as its symbol has arguments, none after a variable; None if it is neither
abbrev pub owes : Arities → ℕ → ℕ → Option ℕ
owes sig vars b = cond (nat_lt b 128) (sig b) (cond (nat_lt b (128 + vars)) (Some 0) None)
