use Rattle.std.proofs.Common.{◌≡◌, ℕ, List, Some, None, Option, unwrap_or, sym, ◌∙◌}
use Rattle.std.proofs.lemmas.Bool.Decides.{not_from_Decides}
use Rattle.terms.specs.Prefix.{Arities}
use Rattle.book.specs.Meaning.{signature_of}
use Rattle.book.specs.Questions.{IsSide}
use Rattle.polynomials.specs.Interpretation.{Interpretation}
use Rattle.polynomials.specs.Grade.{grade, Graded}
use Rattle.order_theory.specs.Grade.{polynomial_grade}
use Rattle.polynomials.proofs.Properness.{proper_held}
use Rattle.order_theory.proofs.BytesLaws.{grade_of_terms}
use Rattle.order_theory.proofs.PolynomialLaws.{polynomial_order_keeps_the_laws}
use Rattle.orders.specs.Polynomials.{interpretation_of}
use Rattle.orders.proofs.polynomial.PolynomialOrder.weigh.Goals as goal

pub returns-then-not-are_sides : goal.returns-then-not-are_sides
returns-then-not-are_sides c =
    let p = c.args.self.now in
    let bytes = p.book.tables.bytes.now in
    let l = c.args.left.now in
    let r = c.args.right.now in
    sym ((polynomial_order_keeps_the_laws (signature_of bytes) (interpretation_of bytes) (proper_held (signature_of bytes) (interpretation_of bytes) p.proper)).malformed l r (not_from_Decides c.are_sides.result c.are_sides.ensures c.if-not-are_sides.true))

pub returns : goal.returns
returns c =
    let p = c.args.self.now in
    let bytes = p.book.tables.bytes.now in
    let sides = c.are_sides.ensures.0 c.if-not-are_sides.false in
    c.unwrap_or.ensures ∙ graded (signature_of bytes) (interpretation_of bytes) c.args.left.now c.args.right.now c.grade.result sides.0 sides.1 c.grade.ensures
  where
    graded : (sig : Arities) (interpretation : Interpretation) (bs cs : List ℕ) (r : Option ℕ) → IsSide sig bs → IsSide sig cs → Graded sig interpretation bs cs r → unwrap_or r 8 ≡ polynomial_grade sig interpretation bs cs
    graded sig interpretation bs cs (Some n) a b g = g.4 ∙ sym (grade_of_terms sig (grade interpretation) bs cs g.0 g.1 a b g.2 g.3)
    graded sig interpretation bs cs None a b g = absurd (g a.term b.term)
