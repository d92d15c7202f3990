use Rattle.std.proofs.Common.{◌+◌, ◌-◌, sym, arith}
use Rattle.terms.proofs.Scans.{first_is, step_more, step_stop, step_few, step_end}
use Rattle.terms.proofs.prefix.first_term_length.Goals as goal

pub returns-in_err-more : goal.returns-in_err-more
returns-in_err-more g c =
    let i = c.loop-i.invariant in
    rw c.from_residual.ensures (first_is _ _ _ _ (step_stop _ _ _ c.args.bytes.now c.loop-i.i c.loop-i.owed i.2 (omega arith) i.0 (sym c.in_err-more.ensures)))

pub returns-then-more-bytes : goal.returns-then-more-bytes
returns-then-more-bytes g c =
    let i = c.loop-i.invariant in
    let more = c.in_ok-more.field-0 in
    let next = step_more _ _ _ c.args.bytes.now c.loop-i.i c.loop-i.owed i.2 more (omega arith) i.0 (sym c.in_ok-more.ensures) in
    first_is _ _ _ _ (step_few _ _ _ c.args.bytes.now (c.loop-i.i + 1) (c.loop-i.owed - 1 + more) next (omega arith) (omega arith))

pub returns-then-owed-eq0 : goal.returns-then-owed-eq0
returns-then-owed-eq0 g c =
    let i = c.loop-i.invariant in
    let more = c.in_ok-more.field-0 in
    let next = step_more _ _ _ c.args.bytes.now c.loop-i.i c.loop-i.owed i.2 more (omega arith) i.0 (sym c.in_ok-more.ensures) in
    first_is _ _ _ _ (step_end _ _ _ c.args.bytes.now (c.loop-i.i + 1) (c.loop-i.owed - 1 + more) next (omega arith))

pub returns : goal.returns
returns g c =
    let i = c.loop-i.invariant in
    first_is _ _ _ _ (step_few _ _ _ c.args.bytes.now c.loop-i.i c.loop-i.owed i.2 (omega arith) (omega arith))
