-- Matching what is left, under the bindings so far, is the same as matching all.
use Rattle.book.specs.Meaning.{signature_of}
use Rattle.stepping.proofs.MatchLoop.{Inv}
use Rattle.stepping.proofs.matching.matches.Given as goal

abbrev pub invariant-loop-byte : goal.invariant-loop-byte
invariant-loop-byte l = Inv (signature_of l.book.tables.bytes.now) l.variables l.left l.bytes l.byte-index l.j l.substitution.parts
