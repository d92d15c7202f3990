use Rattle.std.proofs.Common.{◌≡◌, ◌+◌, ◌≤◌, [], ◌∷◌, sym, ap, ◌∙◌, add-zero, arith}
use Rattle.polynomials.specs.Polynomial.{value}
use Rattle.polynomials.specs.Coding.{polynomial_from, cut_off}
use Rattle.polynomials.specs.Meant.{meant}
use Rattle.polynomials.proofs.Limits.{cut_le, cut_small}
use Rattle.polynomials.proofs.Coded.{value_turn}
use Rattle.polynomials.proofs.measure.symbol_value.Goals as goal

pub overflow_add-sum : goal.overflow_add-sum
overflow_add-sum c =
    let a = c.loop-monomial.invariant.0 in
    let b : c.monomial_value.result ≤ 2147483648 = rw c.monomial_value.ensures (cut_le 2147483648 _) in
    omega arith

pub loop-monomial-preserved : goal.loop-monomial-preserved
loop-monomial-preserved c =
    let e : polynomial_from c.loop-monomial.monomial-iterator.bytes.now ≡ meant c.in-Some.monomial ∷ polynomial_from c.next.new.self.bytes.now = c.in-Some.ensures.steps in (
      rw c.cut-sum.ensures (cut_le 2147483648 _),
      ap (λ n. cut_off 2147483648 (n + value c.args.args.now.numbers (polynomial_from c.next.new.self.bytes.now))) c.cut-sum.ensures
          ∙ value_turn 2147483648 c.args.args.now.numbers (meant c.in-Some.monomial) (polynomial_from c.next.new.self.bytes.now) c.loop-monomial.sum c.monomial_value.result c.monomial_value.ensures
          ∙ ap (λ p. cut_off 2147483648 (c.loop-monomial.sum + value c.args.args.now.numbers p)) (sym e)
          ∙ c.loop-monomial.invariant.1,
    )

pub returns : goal.returns
returns c =
    let e : polynomial_from c.loop-monomial.monomial-iterator.bytes.now ≡ [] = c.in-None.ensures.steps.0 in
    sym (cut_small 2147483648 c.loop-monomial.sum c.loop-monomial.invariant.0)
    ∙ ap (cut_off 2147483648) (sym (add-zero c.loop-monomial.sum))
    ∙ ap (λ p. cut_off 2147483648 (c.loop-monomial.sum + value c.args.args.now.numbers p)) (sym e)
    ∙ c.loop-monomial.invariant.1
