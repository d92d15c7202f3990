use Rattle.std.proofs.Common.{◌<◌, T, length, sym, ap, ◌∙◌, subst, arith}
use Rattle.unification.specs.Written.{bytes_of}
use Rattle.unification.proofs.StandingFacts.{end_range}
use Rattle.unification.proofs.Writes.{image_code, image_bound, turn_writes, turn_fails, below_term}
use Rattle.unification.proofs.forest.Unifier.+write.Goals as goal
use Rattle.unification.proofs.forest.Unifier.+write.Goals.{then-is_bound+in_ok-write, else-is_bound+else-is_full}

pub write-requires : goal.write-requires
write-requires g t c κs =
    let forest = c.args.self.now.forest.now in
    let bs = c.args.self.now.bindings in
    let j : c.loop-j.j < length forest.codes.now = let b = c.requires.inside in omega arith in
    let y = subst T (sym c.if-is_bound.true) tt in
    let r = bs.classes.inside c.loop-j.j j in
    let v = c.is_bound.ensures.bound y in
    let range = end_range _ _ _ _ forest.laid.terms forest.laid.ends r in
    let less = c.requires.falls c.loop-j.j (omega arith) (omega arith) (c.is_bound.ensures.variable y) v in
    λ lives. (omega arith, (lives, (range.0, (range.1, below_term _ _ _ _ _ _ forest.laid.terms forest.laid.ends bs r v))))

pub returns-in_err-write : goal.returns-in_err-write
returns-in_err-write g t c =
    let forest = c.args.self.now.forest.now in
    let bs = c.args.self.now.bindings in
    let j : c.loop-j.j < length forest.codes.now = let b = c.requires.inside in omega arith in
    let v = c.is_bound.ensures.variable (subst T (sym c.if-is_bound.true) tt) in
    rw c.from_residual.ensures (λ μ sol.
    turn_fails μ forest.codes.now _ _ 255 c.args.from c.loop-j.j c.args.to _ (omega arith) j (omega arith)
    (image_bound _ _ _ _ μ _ forest.laid.terms forest.laid.ends bs.classes sol j v)
    (c.loop-j.invariant μ sol) (c.in_err-write.ensures μ sol))

pub returns-then-is_full : goal.returns-then-is_full
returns-then-is_full g t c = λ μ sol.
    let forest = c.args.self.now.forest.now in
    let bs = c.args.self.now.bindings in
    let j : c.loop-j.j < length forest.codes.now = let b = c.requires.inside in omega arith in
    let v = c.is_bound.ensures.no (λ y. subst T c.if-is_bound.false y) in
    let full = c.is_full.ensures.yes (subst T (sym c.if-is_full.true) tt) in
    turn_fails μ _ _ _ _ _ _ _ _ (omega arith) j (omega arith)
    (image_code _ _ _ μ _ bs.classes sol j v)
    (c.loop-j.invariant μ sol) (omega (arith, full))

pub loop-j-preserved : goal.loop-j-preserved
loop-j-preserved g t c = λ μ sol.
    let forest = c.args.self.now.forest.now in
    let bs = c.args.self.now.bindings in
    let j : c.loop-j.j < length forest.codes.now = let b = c.requires.inside in omega arith in
    elim c.if-is_bound.branch [
      | then-is_bound+in_ok-write w ↦
          let v = c.is_bound.ensures.variable (subst T (sym w.if-is_bound.true) tt) in
          ap bytes_of w.out-is
          ∙ turn_writes μ forest.codes.now _ _ _ c.args.from c.loop-j.j _ (omega arith) j
          (image_bound _ _ _ _ μ _ forest.laid.terms forest.laid.ends bs.classes sol j v)
          (c.loop-j.invariant μ sol) (w.in_ok-write.ensures μ sol)
      | else-is_bound+else-is_full w ↦
          let v = c.is_bound.ensures.no (λ y. subst T w.if-is_bound.false y) in
          ap bytes_of w.out-is
          ∙ turn_writes μ forest.codes.now _ _ _ c.args.from c.loop-j.j _ (omega arith) j
          (image_code _ _ _ μ _ bs.classes sol j v)
          (c.loop-j.invariant μ sol) w.push.ensures
    ]
