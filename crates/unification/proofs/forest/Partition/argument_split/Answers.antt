use Rattle.std.proofs.Common.{sym, ◌∙◌, arith}
use Rattle.unification.proofs.Walking.{beside_start, beside_need, beside_inside, beside_turn, beside_split, beside_end}
use Rattle.unification.proofs.forest.Partition.argument_split.Goals as goal

pub loop-k-init : goal.loop-k-init
loop-k-init g c = λ s t h k. beside_need _ _ _ _ _ _ _ _ _ _ _ (sym c.arguments-many.ensures ∙ omega arith) (beside_start _ _ _ _ _ s t c.requires.same h k)

pub bounds-self-a : goal.bounds-self-a
bounds-self-a g c =
    let b = beside_inside _ _ _ _ _ _ _ _ c.args.self.now.forest.now.laid.terms c.requires.first c.requires.second (omega arith) c.loop-k.invariant in
    let n = c.args.self.now.classes.as_many in
    omega (arith, b.0)

pub bounds-self-b : goal.bounds-self-b
bounds-self-b g c =
    let b = beside_inside _ _ _ _ _ _ _ _ c.args.self.now.forest.now.laid.terms c.requires.first c.requires.second (omega arith) c.loop-k.invariant in
    let n = c.args.self.now.classes.as_many in
    omega (arith, b.1)

pub returns-then-self-a : goal.returns-then-self-a
returns-then-self-a g c = beside_split _ _ _ _ _ _ _ _ c.args.self.now.forest.now.laid.terms c.requires.first c.requires.second c.if-self-a.true (omega arith) c.loop-k.invariant

pub bounds-self-a-in-loop-k : goal.bounds-self-a-in-loop-k
bounds-self-a-in-loop-k g c =
    let b = beside_inside _ _ _ _ _ _ _ _ c.args.self.now.forest.now.laid.terms c.requires.first c.requires.second (omega arith) c.loop-k.invariant in
    let n = c.args.self.now.forest.now.laid.room in
    omega (arith, b.0)

pub bounds-self-b-in-loop-k : goal.bounds-self-b-in-loop-k
bounds-self-b-in-loop-k g c =
    let b = beside_inside _ _ _ _ _ _ _ _ c.args.self.now.forest.now.laid.terms c.requires.first c.requires.second (omega arith) c.loop-k.invariant in
    let n = c.args.self.now.forest.now.laid.room in
    omega (arith, b.1)

pub loop-k-preserved : goal.loop-k-preserved
loop-k-preserved g c =
    λ s t h k. beside_need _ _ _ _ _ _ _ _ _ _ _ (omega arith) (beside_turn _ _ _ _ _ _ _ _ _ _ _ c.args.self.now.forest.now.laid.ends c.if-self-a.false (omega arith) (c.loop-k.invariant s t h k))

pub returns : goal.returns
returns g c = beside_end _ _ _ _ _ c.loop-k.a c.loop-k.b (λ s t h k. beside_need _ _ _ _ _ _ _ _ _ _ _ (omega arith) (c.loop-k.invariant s t h k))
