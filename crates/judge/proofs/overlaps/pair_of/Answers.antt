use Rattle.std.proofs.Common.{◌≡◌, ◌<◌, arith}
use Rattle.judge.proofs.Finding.{found}
use Rattle.judge.proofs.overlaps.pair_of.Goals as goal
use Rattle.judge.proofs.overlaps.pair_of.Goals.{else-t-eq0-via-then-t-eq0+else-t, else-t-eq0-via-else-t-eq0}

pub returns : goal.returns
returns c =
    let t = c.args.t.now in
    let root : t.p ≡ 0 → t.i < t.j = λ e. elim c.else-t-eq0.branch [ else-t-eq0-via-then-t-eq0+else-t w ↦ omega (arith, w.if-t.false) | else-t-eq0-via-else-t-eq0 w ↦ absurd (w.if-t-eq0.false e) ] in
    let first = rw c.in_ok-first.ensures.ok_part at c.sides.ensures in
    let second = rw c.in_ok-second.ensures.ok_part at c.sides-2.ensures in
    found c.args.book.now.tables.bytes.now t root _ _ _ _ first second c.critical_pair.result c.critical_pair.ensures
