use Rattle.std.proofs.Common.{◌∙◌}
use Rattle.terms.specs.Prefix.{term_of}
use Rattle.polynomials.proofs.GradeTests.{term_held}
use Rattle.polynomials.proofs.grade.grade.Goals as goal

pub returns : goal.returns
returns g c =
    let l = c.in_ok-left.ensures in
    let r = c.in_ok-right.ensures in
    let held_s = rw (l.0, l.1) at (term_held (g.S.Signature.arities c.in_ok-left.left.symbols.now) c.in_ok-left.left.bytes.now c.in_ok-left.left.is_one) in
    let held_t = rw (r.0, r.1) at (term_held (g.S.Signature.arities c.in_ok-right.right.symbols.now) c.in_ok-right.right.bytes.now c.in_ok-right.right.is_one) in
    let graded = simp (l.0, l.1, r.0, r.1) at c.grade_terms.ensures in
    (term_of _ c.args.left.now, term_of _ c.args.right.now, held_s, held_t, c.number.ensures ∙ graded _ _ held_s held_t)
