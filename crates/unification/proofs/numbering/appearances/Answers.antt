use Rattle.std.proofs.Common.{◌<◌, length, ap, arith, lit<}
use Rattle.unification.specs.Written.{bytes_of}
use Rattle.unification.proofs.Renumbering.{seen_by, seen_as, seen_old, seen_symbol, seen_room, turn_stays, turn_new}
use Rattle.unification.proofs.numbering.appearances.Goals as goal
use Rattle.unification.proofs.numbering.appearances.Goals.{then-x-ge-VARIABLE+then-not-contains, else-x-ge-VARIABLE, else-x-ge-VARIABLE-via-then-x-ge-VARIABLE+else-not-contains, else-x-ge-VARIABLE-via-else-x-ge-VARIABLE}

pub push-requires : goal.push-requires
push-requires c =
    let new = seen_by _ _ _ _ _ c.as_slice.ensures c.contains.ensures.value c.if-not-contains.true in
    (lit< tt, seen_room _ _ c.if-x-ge-VARIABLE.true (c.requires c.loop-x.x-index (omega arith)) new c.loop-x.invariant.once)

pub loop-x-preserved : goal.loop-x-preserved
loop-x-preserved c =
    let i : c.loop-x.x-index < length c.args.codes.now = omega arith in
    elim c.if-x-ge-VARIABLE.branch [
      | then-x-ge-VARIABLE+then-not-contains w ↦
          seen_as _ _ _ _ (ap bytes_of w.variables-is)
          (turn_new _ _ _ i c.loop-x.invariant _ w.push.ensures w.if-x-ge-VARIABLE.true (c.requires c.loop-x.x-index i)
          (seen_by _ _ _ _ _ w.as_slice.ensures w.contains.ensures.value w.if-not-contains.true))
      | else-x-ge-VARIABLE w ↦
          seen_as _ _ _ _ (ap bytes_of w.variables-is)
          (turn_stays _ _ _ i c.loop-x.invariant
          (elim w.else-x-ge-VARIABLE.branch [
            | else-x-ge-VARIABLE-via-then-x-ge-VARIABLE+else-not-contains v ↦ seen_old _ _ _ i v.if-x-ge-VARIABLE.true (seen_by _ _ _ _ _ v.as_slice.ensures v.contains.ensures.value v.if-not-contains.false)
            | else-x-ge-VARIABLE-via-else-x-ge-VARIABLE v ↦ seen_symbol _ _ _ i v.if-x-ge-VARIABLE.false
          ]))
    ]
