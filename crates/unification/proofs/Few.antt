-- Codes in fixed memory are no more than its bytes.
use Rattle.std.proofs.Common.{ℕ, ◌≤◌, length, arith, length-take}
use Rattle.unification.specs.declared.written.Codes.{Codes}
use Rattle.unification.specs.Written.{bytes_of}

pub few_codes : {n : ℕ} (w : Codes n) → length (bytes_of w) ≤ n
few_codes w = omega (arith, length-take w.count w.bytes, w.within)
