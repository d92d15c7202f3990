-- What is read off the bytes that are left, for the terms still owed, completes what was read off so far.
use Rattle.std.proofs.Common.{◌≡◌, ◌+◌, ◌<◌, ◌≤◌, length, drop}
use Rattle.terms.proofs.Scans.{longer, scan}
use Rattle.terms.proofs.prefix.first_term_length.Given as goal

abbrev pub invariant-loop-i : goal.invariant-loop-i
invariant-loop-i g l =
    (0 < l.owed)
    × (l.i < length l.bytes → l.i + l.owed ≤ length l.bytes)
    × (scan (g.S.Signature.arities l.signature) l.variables 1 l.bytes
    ≡ longer l.i (scan (g.S.Signature.arities l.signature) l.variables l.owed (drop l.i l.bytes)))
