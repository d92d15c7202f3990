use Rattle.std.proofs.Common.{◌+◌, ◌-◌, ◌<◌, length, sym, ◌∙◌, subst, arith}
use Rattle.unification.proofs.StandingFacts.{stands_at}
use Rattle.unification.proofs.Walking.{EndsFrom, left_start, left_need, left_below, left_inside, left_turn, ends_none, ends_more}
use Rattle.unification.proofs.standing.ends.Goals as goal

pub loop-i-init : goal.loop-i-init
loop-i-init g c = (omega arith, ends_none _ _ _)

pub loop-k-init : goal.loop-k-init
loop-k-init g c = (
  omega arith,
  λ t h. left_need _ _ _ _ _ _ (sym c.arguments-many.ensures ∙ omega arith) (left_start _ _ _ t h),
)

pub bounds-end-e : goal.bounds-end-e
bounds-end-e g c =
    let i : c.loop-i.i - 1 < length c.args.codes.now = omega (arith, c.loop-i.invariant.0) in
    let t = stands_at (g.S.Signature.arities c.args.signature.now) c.args.codes.now (c.loop-i.i - 1) c.requires.terms i in
    let b = left_below _ _ _ _ _ (omega arith) (c.loop-k.invariant.1 t.0 t.1) in
    omega arith

pub loop-k-preserved : goal.loop-k-preserved
loop-k-preserved g c =
    let i : c.loop-i.i - 1 < length c.args.codes.now = omega (arith, c.loop-i.invariant.0) in
    let t = stands_at (g.S.Signature.arities c.args.signature.now) c.args.codes.now (c.loop-i.i - 1) c.requires.terms i in
    let f : EndsFrom (g.S.Signature.arities c.args.signature.now) c.args.codes.now c.loop-i.end ((c.loop-i.i - 1) + 1)
    = subst (EndsFrom (g.S.Signature.arities c.args.signature.now) c.args.codes.now c.loop-i.end) (omega arith) c.loop-i.invariant.1 in (
      (left_turn _ _ _ _ _ _ _ f c.loop-k.invariant.0 (omega arith) (c.loop-k.invariant.1 t.0 t.1)).0,
      λ u h. left_need _ _ _ _ _ _ (omega arith) (left_turn _ _ _ _ _ _ _ f c.loop-k.invariant.0 (omega arith) (c.loop-k.invariant.1 u h)).1,
    )

pub overflow_cast-end : goal.overflow_cast-end
overflow_cast-end g c =
    let i : c.loop-i.i - 1 < length c.args.codes.now = omega (arith, c.loop-i.invariant.0) in
    let t = stands_at (g.S.Signature.arities c.args.signature.now) c.args.codes.now (c.loop-i.i - 1) c.requires.terms i in
    let b = left_inside _ _ _ _ _ (c.loop-k.invariant.1 t.0 t.1) in
    omega arith

pub loop-i-preserved : goal.loop-i-preserved
loop-i-preserved g c =
    let f : EndsFrom (g.S.Signature.arities c.args.signature.now) c.args.codes.now c.loop-i.end ((c.loop-i.i - 1) + 1)
    = subst (EndsFrom (g.S.Signature.arities c.args.signature.now) c.args.codes.now c.loop-i.end) (omega arith) c.loop-i.invariant.1 in (
      omega (arith, c.loop-i.invariant.0),
      ends_more _ _ _ _ _ (omega (arith, c.loop-i.invariant.0)) f (λ t h. left_need _ _ _ _ _ _ (omega arith) (c.loop-k.invariant.1 t h)),
    )
