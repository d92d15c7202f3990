use Rattle.std.proofs.Common.{sym, refl, arith}
use Rattle.std.proofs.lemmas.List.{length-take-le}
use Rattle.terms.proofs.Parts.{first_within}
use Rattle.stepping.proofs.MatchLoop.{inv_start, inv_index, inv_symbol, inv_symbol_clash, inv_some, inv_small, inv_part, inv_variable, inv_variable_clash, inv_end}
use Rattle.stepping.proofs.matching.matches.Goals as goal
use Rattle.stepping.proofs.matching.matches.Goals.{then-byte-lt-VARIABLE+else-bytes-j, else-byte-lt-VARIABLE+in_ok-len+in_ok-substitution}

pub loop-byte-init : goal.loop-byte-init
loop-byte-init c = inv_start

pub bounds-bytes-j : goal.bounds-bytes-j
bounds-bytes-j c = inv_index c.requires.term c.requires.begins c.loop-byte.invariant c.loop-byte-test.true

pub returns-then-bytes-j : goal.returns-then-bytes-j
returns-then-bytes-j c = inv_symbol_clash c.requires.term c.requires.begins c.loop-byte.invariant c.loop-byte-test.true c.if-byte-lt-VARIABLE.true c.if-bytes-j.true

pub returns-in_err-len : goal.returns-in_err-len
returns-in_err-len c l t p q = absurd (inv_some c.requires.term c.requires.begins c.loop-byte.invariant c.loop-byte-test.true c.in_err-len.ensures)

pub slice_bounds-bind-end : goal.slice_bounds-bind-end
slice_bounds-bind-end c = sym (length-take-le c.in_ok-len.len _ (first_within _ _ _ _ c.in_ok-len.ensures))

pub overflow_add-j-else-byte-lt-VARIABLE : goal.overflow_add-j-else-byte-lt-VARIABLE
overflow_add-j-else-byte-lt-VARIABLE c =
    let inside = inv_part c.requires.term c.requires.begins c.loop-byte.invariant c.loop-byte-test.true c.in_ok-len.len c.in_ok-len.ensures in
    omega arith

pub bind-requires : goal.bind-requires
bind-requires c = inv_small c.requires.term c.requires.begins c.loop-byte.invariant c.loop-byte-test.true c.if-byte-lt-VARIABLE.false

pub returns-in_err-substitution : goal.returns-in_err-substitution
returns-in_err-substitution c l t p q =
    rw c.from_residual-in_err-substitution.ensures
    (inv_variable_clash c.requires.term c.requires.begins c.loop-byte.invariant c.loop-byte-test.true c.if-byte-lt-VARIABLE.false
    c.in_ok-len.len (record { ref_ptr = c.args.bytes.ref_ptr; now = _ }) refl c.in_ok-len.ensures c.in_err-substitution.ensures l t p q)

pub loop-byte-preserved : goal.loop-byte-preserved
loop-byte-preserved c =
    elim c.if-byte-lt-VARIABLE.branch [
      | then-byte-lt-VARIABLE+else-bytes-j w ↦
          rw (w.j-is, w.substitution-is)
          (inv_symbol c.requires.term c.requires.begins c.loop-byte.invariant c.loop-byte-test.true w.if-byte-lt-VARIABLE.true w.if-bytes-j.false)
      | else-byte-lt-VARIABLE+in_ok-len+in_ok-substitution w ↦
          rw (w.j-is, w.substitution-is)
          (inv_variable c.requires.term c.requires.begins c.loop-byte.invariant c.loop-byte-test.true w.if-byte-lt-VARIABLE.false
          w.in_ok-len.len _ refl w.in_ok-len.ensures w.in_ok-substitution.substitution w.in_ok-substitution.ensures)
    ]

pub returns : goal.returns
returns c = inv_end c.loop-byte.invariant c.loop-byte-test.false
