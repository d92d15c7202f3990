use Rattle.std.proofs.Common.{◌≡◌, length, arith}
use Rattle.unification.proofs.Closure.{initial_classes}
use Rattle.unification.proofs.Matching.{match_map}
use Rattle.unification.proofs.Solution.{begun_same, begun_merged, begun_clash}
use Rattle.unification.proofs.forest.Forest.begin.Goals as goal

pub returns-then-rep-p : goal.returns-then-rep-p
returns-then-rep-p g c = begun_same _ _ _ _ _ (omega arith) c.start.ensures c.if-rep-p.true

pub merge-requires-clause-classes : goal.merge-requires-clause-classes
merge-requires-clause-classes g c = initial_classes _ _ (omega arith) c.start.ensures

pub returns : goal.returns
returns g c =
    let forest = c.args.self.now in
    let n : length c.start.new.rep ≡ length forest.codes.now = omega arith in
    let m : length c.merge.new.rep ≡ length forest.codes.now = omega arith in
    match_map c.merge.result
    (λ clash. begun_clash _ _ _ _ _ forest.laid.terms c.requires.first c.requires.second n c.start.ensures clash)
    (λ _ merged. begun_merged _ _ _ _ _ _ forest.laid.terms c.requires.first c.requires.second n m c.start.ensures c.if-rep-p.false merged)
    c.merge.ensures
