use Rattle.std.proofs.Common.{true, false, sym, refl}
use Rattle.std.proofs.lemmas.Bool.Decides.{not_from_Decides}
use Rattle.book.specs.Meaning.{signature_of}
use Rattle.order_theory.proofs.PathLaws.{path_order_keeps_the_laws, path_grade_by}
use Rattle.orders.specs.Ranks.{rank_of}
use Rattle.orders.proofs.path.PathOrder.weigh.Goals as goal

pub returns-then-not-are_sides : goal.returns-then-not-are_sides
returns-then-not-are_sides c =
    let bytes = c.args.self.now.book.tables.bytes.now in
    let l = c.args.left.now in
    let r = c.args.right.now in
    sym ((path_order_keeps_the_laws (signature_of bytes) (rank_of bytes)).malformed l r (not_from_Decides c.are_sides.result c.are_sides.ensures c.if-not-are_sides.true))

pub returns-then-greater : goal.returns-then-greater
returns-then-greater c =
    let bytes = c.args.self.now.book.tables.bytes.now in
    let l = c.args.left.now in
    let r = c.args.right.now in
    let sides = c.are_sides.ensures.0 c.if-not-are_sides.false in
    let a = sides.0 in
    let b = sides.1 in
    let s = a.term.0 in
    let t = b.term.0 in
    let above = (c.greater.ensures s t a.term.1 b.term.1).0 c.if-greater.true in
    sym (path_grade_by (signature_of bytes) (rank_of bytes) l r s t a b a.term.1 b.term.1 true (λ e. above) (λ g. refl))

pub returns-else-greater : goal.returns-else-greater
returns-else-greater c =
    let bytes = c.args.self.now.book.tables.bytes.now in
    let l = c.args.left.now in
    let r = c.args.right.now in
    let sides = c.are_sides.ensures.0 c.if-not-are_sides.false in
    let a = sides.0 in
    let b = sides.1 in
    let s = a.term.0 in
    let t = b.term.0 in
    let not = not_from_Decides c.greater.result (c.greater.ensures s t a.term.1 b.term.1) c.if-greater.false in
    sym (path_grade_by (signature_of bytes) (rank_of bytes) l r s t a b a.term.1 b.term.1 false (λ e. cc) (λ g. absurd (not g)))
