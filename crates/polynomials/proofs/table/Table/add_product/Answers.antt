use Rattle.std.proofs.Common.{◌≡◌, length, refl, add-one, arith}
use Rattle.polynomials.proofs.Products.{rows_more, rows_zero, rows_all, rows_none, row_whole, part_le}
use Rattle.polynomials.proofs.table.Table.add_product.Goals as goal
use Rattle.polynomials.proofs.table.Table.add_product.Goals.{then-x-ne0, else-x-ne0}

pub loop-i-init : goal.loop-i-init
loop-i-init c = ((λ k h. let z = rows_none c.args.a.now.cells c.args.b.now.cells k in omega arith), refl)

pub add_row-requires-clause-room : goal.add_row-requires-clause-room
add_row-requires-clause-room c k h =
    let o = c.loop-i.invariant.0 k h in
    let p = part_le c.args.a.now.cells c.args.b.now.cells c.loop-i.i (length c.args.b.now.cells) k (omega arith) (omega arith) in
    let w = row_whole c.args.a.now.cells c.args.b.now.cells c.loop-i.i k in
    let r = c.requires.room k h in
    omega arith

pub loop-i-preserved : goal.loop-i-preserved
loop-i-preserved c = (
  (λ k h.
      elim c.if-x-ne0.branch [
        | then-x-ne0 w ↦
            let r = rows_more c.args.a.now.cells c.args.b.now.cells c.loop-i.i k in
            let o = c.loop-i.invariant.0 k h in
            let a = w.add_row.ensures.each k h in
            let all = row_whole c.args.a.now.cells c.args.b.now.cells c.loop-i.i k in
            rw (add-one, w.self-is) (omega arith)
        | else-x-ne0 w ↦
            let r = rows_zero c.args.a.now.cells c.args.b.now.cells c.loop-i.i k w.if-x-ne0.false in
            let o = c.loop-i.invariant.0 k h in
            rw (add-one, w.self-is) (omega arith)
      ]),
  elim c.if-x-ne0.branch [
    | then-x-ne0 w ↦ let o = c.loop-i.invariant.1 in let n = w.add_row.ensures.full in rw w.self-is (omega arith)
    | else-x-ne0 w ↦ let o = c.loop-i.invariant.1 in rw w.self-is (omega arith)
  ],
)

pub returns-clause-each : goal.returns-clause-each
returns-clause-each c k h =
    let e : c.loop-i.i ≡ length c.args.a.now.cells = omega arith in
    let o = rw e at (c.loop-i.invariant.0 k h) in
    let all = rows_all c.args.a.now.cells c.args.b.now.cells k in
    omega arith
