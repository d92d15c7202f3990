-- The pieces so far are written.
use Rattle.std.proofs.Common.{◌≡◌, ◌+◌, length, take}
use Rattle.stepping.specs.Writing.{Written, instance_bytes}
use Rattle.stepping.proofs.subject.RuleMatch.write_instance.Given as goal

abbrev pub invariant-loop-byte : goal.invariant-loop-byte
invariant-loop-byte l =
    (l.end ≡ l.at + length (instance_bytes l.self.found.substitution.parts (take l.byte-index l.self.right.now)))
    × Written l.initial.page l.at (instance_bytes l.self.found.substitution.parts (take l.byte-index l.self.right.now)) l.page
