use Rattle.std.proofs.Common.{◌≡◌, ℕ, Bool, true, false, cond, nat_lt, None, Option, refl}
use Rattle.std.proofs.lemmas.List.{get_or-replicate}
use Rattle.std.proofs.lemmas.Nat.Bits.{bit_at-zero}
use Rattle.book.proofs.places.Places.new.Goals as goal

none_both : (b : Bool) → ◌≡◌ {A = Option ℕ} (cond b None None) None
none_both true = refl
none_both false = refl

pub returns : goal.returns
returns c code = rw (bit_at-zero code) (none_both (nat_lt code 128))

pub invariant_of-result : goal.invariant_of-result
invariant_of-result c = record { free = λ code small none. get_or-replicate 128 code 65535 0 small }
