use Rattle.std.proofs.Common.{refl, arith, length-set}
use Rattle.unification.proofs.Matching.{match_then_some}
use Rattle.unification.proofs.Ranking.{ranks_zero, ranks_more, ranks_fewer, stuck_fails, ranks_bindings}
use Rattle.unification.proofs.forest.Partition.order.Goals as goal

pub loop-i-init : goal.loop-i-init
loop-i-init g c = (omega arith, ranks_zero _ _ _ _ _ (omega arith) (c.fill.ensures.after (λ y h. h)))

pub loop-i-smaller : goal.loop-i-smaller
loop-i-smaller g c = ranks_fewer _ _ _ _ c.loop-i.invariant.1.as_many c.loop-i.invariant.0 c.in-Some.ensures.0

pub loop-i-preserved : goal.loop-i-preserved
loop-i-preserved g c =
    let n = c.loop-i.invariant.1.as_many in
    (omega arith, ranks_more _ _ _ _ _ _ _ _ c.args.self.now.forest.now.laid.ends refl (simp length-set n) c.loop-i.invariant.0 c.in-Some.ensures.0 c.in-Some.ensures.1 c.loop-i.invariant.1)

pub returns : goal.returns
returns g c =
    rw c.then_some.ensures
    (match_then_some c.all_ranked.result _
    (λ some.
    let u = c.all_ranked.ensures.no some in
    stuck_fails _ _ _ _ _ u.0 c.args.self.now.forest.now.laid.terms c.args.self.now.forest.now.laid.ends c.args.self.now.classes c.in_default.ensures u.1)
    (λ all. ranks_bindings _ _ _ _ _ c.args.self.now.forest.now.laid.few c.args.self.now.classes c.loop-i.invariant.1 (c.all_ranked.ensures.yes all)))
