use Rattle.std.proofs.Common.{◌≡◌, length, arith}
use Rattle.unification.proofs.Closure.{progress_more, progress_fails, merged_fewer}
use Rattle.unification.proofs.forest.Forest.close.Goals as goal

pub returns-in_err-merge : goal.returns-in_err-merge
returns-in_err-merge g c =
    let x = c.in-Some.ensures in
    rw c.from_residual.ensures (progress_fails _ _ _ _ x.0 _ _ c.args.self.now.laid.terms c.merging.invariant x.1 x.2 c.in_err-merge.ensures)

pub merging-smaller : goal.merging-smaller
merging-smaller g c =
    let x = c.in-Some.ensures in
    merged_fewer _ _ _ _ _ c.merging.invariant.classes x.2.left_inside x.2.right_inside x.2.apart c.in_ok-merge.ensures

pub merging-preserved : goal.merging-preserved
merging-preserved g c =
    let x = c.in-Some.ensures in
    let n : length c.merge.new.rep ≡ length c.args.self.now.codes.now = let m = c.merging.invariant.classes.as_many in omega arith in
    progress_more _ _ _ _ _ x.0 _ _ c.args.self.now.laid.terms n c.merging.invariant x.1 x.2 c.in_ok-merge.ensures
