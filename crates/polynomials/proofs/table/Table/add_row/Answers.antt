use Rattle.std.proofs.Common.{◌≡◌, ◌+◌, length, refl, add-one, arith, length-set}
use Rattle.polynomials.proofs.Products.{row_none, row_start, row_whole}
use Rattle.polynomials.proofs.Sums.{within, fits, turned}
use Rattle.polynomials.proofs.table.Table.add_row.Goals as goal
use Rattle.polynomials.proofs.table.Table.add_row.Goals.{then-y-ne0, else-y-ne0}

pub overflow_mul-self : goal.overflow_mul-self
overflow_mul-self c =
    let w = within c.args.a.now.cells c.args.b.now.cells c.args.i c.loop-j.j c.requires.inside (omega arith) c.requires.apart c.requires.some c.if-y-ne0.true in
    omega (arith, fits c.args.a.now.cells c.args.b.now.cells c.args.i c.loop-j.j c.requires.inside (omega arith) c.requires.apart c.requires.some c.if-y-ne0.true c.args.self.now.cells c.loop-j.self.cells c.loop-j.invariant.0 (omega arith), c.requires.room (c.args.i + c.loop-j.j) w)

pub bounds-self-i : goal.bounds-self-i
bounds-self-i c = within c.args.a.now.cells c.args.b.now.cells c.args.i c.loop-j.j c.requires.inside (omega arith) c.requires.apart c.requires.some c.if-y-ne0.true

pub overflow_add-self-then-y-ne0 : goal.overflow_add-self-then-y-ne0
overflow_add-self-then-y-ne0 c =
    let w = within c.args.a.now.cells c.args.b.now.cells c.args.i c.loop-j.j c.requires.inside (omega arith) c.requires.apart c.requires.some c.if-y-ne0.true in
    omega (arith, fits c.args.a.now.cells c.args.b.now.cells c.args.i c.loop-j.j c.requires.inside (omega arith) c.requires.apart c.requires.some c.if-y-ne0.true c.args.self.now.cells c.loop-j.self.cells c.loop-j.invariant.0 (omega arith), c.requires.room (c.args.i + c.loop-j.j) w)

pub bounds-self-i-then-y-ne0 : goal.bounds-self-i-then-y-ne0
bounds-self-i-then-y-ne0 c = within c.args.a.now.cells c.args.b.now.cells c.args.i c.loop-j.j c.requires.inside (omega arith) c.requires.apart c.requires.some c.if-y-ne0.true

pub loop-j-init : goal.loop-j-init
loop-j-init c = ((λ k h. let z = row_start c.args.a.now.cells c.args.b.now.cells c.args.i k in omega arith), refl)

pub loop-j-preserved : goal.loop-j-preserved
loop-j-preserved c = (
  (λ k h.
      elim c.if-y-ne0.branch [
        | then-y-ne0 w ↦
            rw (add-one, w.self-is)
            (turned c.args.a.now.cells c.args.b.now.cells c.args.i c.loop-j.j c.requires.inside (omega arith) c.requires.apart c.requires.some w.if-y-ne0.true c.args.self.now.cells c.loop-j.self.cells c.loop-j.invariant.0 (omega arith) k h)
        | else-y-ne0 w ↦
            let r = row_none c.args.a.now.cells c.args.b.now.cells c.args.i c.loop-j.j k w.if-y-ne0.false in
            let o = c.loop-j.invariant.0 k h in
            rw (add-one, w.self-is) (omega arith)
      ]),
  elim c.if-y-ne0.branch [
    | then-y-ne0 w ↦ let o = c.loop-j.invariant.1 in rw w.self-is (simp length-set (omega arith))
    | else-y-ne0 w ↦ let o = c.loop-j.invariant.1 in rw w.self-is (omega arith)
  ],
)

pub returns-clause-each : goal.returns-clause-each
returns-clause-each c k h =
    let e : c.loop-j.j ≡ length c.args.b.now.cells = omega arith in
    let o = rw e at (c.loop-j.invariant.0 k h) in
    let w = row_whole c.args.a.now.cells c.args.b.now.cells c.args.i k in
    omega arith
