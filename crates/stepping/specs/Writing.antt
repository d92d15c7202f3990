-- What is written to a page.
use Rattle.std.specs.Prelude.{◌≡◌, ℕ, ◌+◌, ◌<◌, ◌≤◌, List, ◌++◌, length, take, drop, Some, None, Option}
use Rattle.terms.specs.Prefix.{expand}
use Rattle.stepping.specs.declared.subject.RuleMatch.{RuleMatch}
use Rattle.stepping.specs.Bindings.{Bindings, piece_of}

-- some bytes stand on the page from the place p on; what stands before and behind them stays
abbrev pub Written : List ℕ → ℕ → List ℕ → List ℕ → Type 0
Written page p bytes after = (take (p + length bytes) after ≡ take p page ++ bytes) × (drop (p + length bytes) after ≡ drop (p + length bytes) page)

-- they stand at the front, and there are n of them; or there is no room for them, and the page stays
abbrev pub PutInFront : List ℕ → List ℕ → List ℕ → Option ℕ → Type 0
PutInFront page bytes after (Some n) = (n ≡ length bytes) × (n ≤ length page) × (after ≡ bytes ++ drop n page)
PutInFront page bytes after None = (length page < length bytes) × (after ≡ page)

-- the bytes of a right side, each bound variable replaced by its part
abbrev pub instance_bytes : Bindings → List ℕ → List ℕ
instance_bytes bs right = expand (piece_of bs) right

-- the instance of the right side of a rule that matches
abbrev pub instance_of : RuleMatch → List ℕ
instance_of m = instance_bytes m.found.substitution.parts m.right.now

-- the bytes of a term, the n bytes at the place p replaced by others
abbrev pub replaced : List ℕ → ℕ → ℕ → List ℕ → List ℕ
replaced term p n new = take p term ++ (new ++ drop (p + n) term)
