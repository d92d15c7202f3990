-- The pieces so far and what is left make the room.
use Rattle.std.proofs.Common.{◌≡◌, ◌+◌, length, take}
use Rattle.stepping.specs.Writing.{instance_bytes}
use Rattle.stepping.proofs.subject.RuleMatch.instance_fits.Given as goal

abbrev pub invariant-loop-byte : goal.invariant-loop-byte
invariant-loop-byte l = length (instance_bytes l.self.found.substitution.parts (take l.byte-index l.self.right.now)) + l.left ≡ l.room
