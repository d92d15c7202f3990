-- The codes that stand in fixed memory.
use Rattle.std.specs.Prelude.{ℕ, List, take}
use Rattle.unification.specs.declared.written.Codes.{Codes}

module _ {n : ℕ} where
  abbrev pub bytes_of : Codes n → List ℕ
  bytes_of w = take w.count w.bytes
