use Rattle.std.proofs.Common.{true, false, sym, refl, ◌∙◌}
use Rattle.polynomials.specs.Interpretation.{shifted}
use Rattle.polynomials.proofs.GradeTests.{shifted_degrees, term_room, graded}
use Rattle.polynomials.proofs.grading.grade_terms.Goals as goal
use Rattle.polynomials.proofs.grading.grade_terms.Goals.{else-not-any_negative-via-then-not-any_negative+else-positive_constant, else-not-any_negative-via-else-not-any_negative}

pub shifted_coefficients-p-requires : goal.shifted_coefficients-p-requires
shifted_coefficients-p-requires g c s reads = term_room (g.S.Signature.arities c.args.left.now.symbols.now) (g.S.Symbols.interpretation c.args.left.now.symbols.now) (g.met.S.Symbols.proper c.args.left.now.symbols.now) s reads.sorted (sym (c.is_steep.ensures s reads) ∙ c.if-is_steep.false) (sym (c.is_large.ensures s reads) ∙ c.if-is_large.false)

pub shifted_coefficients-q-requires : goal.shifted_coefficients-q-requires
shifted_coefficients-q-requires g c t reads = term_room (g.S.Signature.arities c.args.right.now.symbols.now) (g.S.Symbols.interpretation c.args.right.now.symbols.now) (g.met.S.Symbols.proper c.args.right.now.symbols.now) t reads.sorted (sym (c.is_steep-else-is_steep.ensures t reads) ∙ c.if-is_steep-2.false) (sym (c.is_large-else-is_large.ensures t reads) ∙ c.if-is_large-2.false)

pub returns-else-not-any_negative : goal.returns-else-not-any_negative
returns-else-not-any_negative g c s t rs rt =
    let same = c.requires in
    let steep_s = sym (c.is_steep.ensures s rs) ∙ c.if-is_steep.false in
    let large_s = sym (c.is_large.ensures s rs) ∙ c.if-is_large.false in
    let steep_right = rw same at (c.is_steep-else-is_steep.ensures) in
    let large_right = rw same at (c.is_large-else-is_large.ensures) in
    let tables_right = rw same at (c.shifted_coefficients-q.ensures) in
    let steep_t = sym (steep_right t rt) ∙ c.if-is_steep-2.false in
    let large_t = sym (large_right t rt) ∙ c.if-is_large-2.false in
    let p = c.shifted_coefficients-p.ensures s rs in
    let q = tables_right t rt in
    let degrees = shifted_degrees (g.S.Signature.arities c.args.left.now.symbols.now) (g.S.Symbols.interpretation c.args.left.now.symbols.now) (g.met.S.Symbols.proper c.args.left.now.symbols.now) t rt.sorted (term_room (g.S.Signature.arities c.args.left.now.symbols.now) (g.S.Symbols.interpretation c.args.left.now.symbols.now) (g.met.S.Symbols.proper c.args.left.now.symbols.now) t rt.sorted steep_t large_t) in
    let negative = c.any_negative.ensures (shifted (g.S.Symbols.interpretation c.args.left.now.symbols.now) s) (shifted (g.S.Symbols.interpretation c.args.left.now.symbols.now) t) p q degrees in
    elim c.else-not-any_negative.branch [
      | else-not-any_negative-via-then-not-any_negative+else-positive_constant w ↦ graded (g.S.Symbols.interpretation c.args.left.now.symbols.now) s t steep_s steep_t large_s large_t false false (sym negative ∙ w.if-not-any_negative.true) (sym (w.positive_constant.ensures (shifted (g.S.Symbols.interpretation c.args.left.now.symbols.now) s) (shifted (g.S.Symbols.interpretation c.args.left.now.symbols.now) t) p q) ∙ w.if-positive_constant.false)
      | else-not-any_negative-via-else-not-any_negative w ↦ graded (g.S.Symbols.interpretation c.args.left.now.symbols.now) s t steep_s steep_t large_s large_t true _ (sym negative ∙ w.if-not-any_negative.false) refl
    ]

pub returns-then-positive_constant : goal.returns-then-positive_constant
returns-then-positive_constant g c s t rs rt =
    let same = c.requires in
    let steep_s = sym (c.is_steep.ensures s rs) ∙ c.if-is_steep.false in
    let large_s = sym (c.is_large.ensures s rs) ∙ c.if-is_large.false in
    let steep_right = rw same at (c.is_steep-else-is_steep.ensures) in
    let large_right = rw same at (c.is_large-else-is_large.ensures) in
    let tables_right = rw same at (c.shifted_coefficients-q.ensures) in
    let steep_t = sym (steep_right t rt) ∙ c.if-is_steep-2.false in
    let large_t = sym (large_right t rt) ∙ c.if-is_large-2.false in
    let p = c.shifted_coefficients-p.ensures s rs in
    let q = tables_right t rt in
    let degrees = shifted_degrees (g.S.Signature.arities c.args.left.now.symbols.now) (g.S.Symbols.interpretation c.args.left.now.symbols.now) (g.met.S.Symbols.proper c.args.left.now.symbols.now) t rt.sorted (term_room (g.S.Signature.arities c.args.left.now.symbols.now) (g.S.Symbols.interpretation c.args.left.now.symbols.now) (g.met.S.Symbols.proper c.args.left.now.symbols.now) t rt.sorted steep_t large_t) in
    let negative = c.any_negative.ensures (shifted (g.S.Symbols.interpretation c.args.left.now.symbols.now) s) (shifted (g.S.Symbols.interpretation c.args.left.now.symbols.now) t) p q degrees in
    graded (g.S.Symbols.interpretation c.args.left.now.symbols.now) s t steep_s steep_t large_s large_t false true (sym negative ∙ c.if-not-any_negative.true) (sym (c.positive_constant.ensures (shifted (g.S.Symbols.interpretation c.args.left.now.symbols.now) s) (shifted (g.S.Symbols.interpretation c.args.left.now.symbols.now) t) p q) ∙ c.if-positive_constant.true)
