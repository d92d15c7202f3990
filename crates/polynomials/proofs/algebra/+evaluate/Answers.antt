use Rattle.std.proofs.Common.{◌≡◌, get_or, sym, refl, ◌∙◌, subst, arith, length-drop, rules}
use Rattle.std.proofs.lemmas.List.{take_rest}
use Rattle.terms.specs.Term.{how_many}
use Rattle.terms.specs.Prefix.{WellSorted}
use Rattle.polynomials.specs.Interpretation.{Application}
use Rattle.polynomials.specs.Coding.{polynomial_from}
use Rattle.polynomials.proofs.Coded.{arity_small}
use Rattle.polynomials.proofs.Walks.{arguments, argument, some_byte, is_variable, is_symbol, behind_variable, behind_code, arity_many, next_begins, next_shorter, walk_end, throughout_here, throughout_argument}
use Rattle.polynomials.proofs.algebra.+evaluate.Goals as goal

pub bounds-bytes-0 : goal.bounds-bytes-0
bounds-bytes-0 g t c = some_byte _ 4 c.args.bytes.now c.requires.0 c.requires.1

pub slice_bounds-rest-count : goal.slice_bounds-rest-count
slice_bounds-rest-count g t c = let h = some_byte _ 4 c.args.bytes.now c.requires.0 c.requires.1 in omega arith

pub slice_bounds-rest-start : goal.slice_bounds-rest-start
slice_bounds-rest-start g t c = let h = some_byte _ 4 c.args.bytes.now c.requires.0 c.requires.1 in search rules

pub variable-requires : goal.variable-requires
variable-requires g t c = let v = (is_variable _ 4 c.args.bytes.now c.requires.0 c.requires.1 c.if-code-ge-VARIABLE.true).1 in (omega arith, omega arith)

pub returns-then-code-ge-VARIABLE : goal.returns-then-code-ge-VARIABLE
returns-then-code-ge-VARIABLE g t c u b fits =
    let v = (is_variable _ 4 c.args.bytes.now u b c.if-code-ge-VARIABLE.true).0 in
    (subst (λ w. g.A.Algebra.worth c.args.algebra.now (g.S.Symbols.interpretation c.args.symbols.now) w c.variable.result) (sym v) (c.variable.ensures (g.S.Symbols.interpretation c.args.symbols.now)), take_rest c.args.bytes.now 1 ∙ behind_variable _ 4 c.args.bytes.now u b c.if-code-ge-VARIABLE.true)

pub unwrap-arity-requires : goal.unwrap-arity-requires
unwrap-arity-requires g t c = rw (c.arity.ensures, (is_symbol _ 4 c.args.bytes.now c.requires.0 c.requires.1 c.if-code-ge-VARIABLE.false).1) refl

pub loop-i-init : goal.loop-i-init
loop-i-init g t c = (
  (let h = some_byte _ 4 c.args.bytes.now c.requires.0 c.requires.1 in let l = length-drop 1 c.args.bytes.now in rw (take_rest c.args.bytes.now 1) (omega arith)),
  λ u b fits. (take_rest c.args.bytes.now 1 ∙ behind_code _ 4 c.args.bytes.now u b c.if-code-ge-VARIABLE.false, c.no_arguments-arguments.ensures (g.S.Symbols.interpretation c.args.symbols.now) (arguments u)),
)

pub evaluate-value-requires : goal.evaluate-value-requires
evaluate-value-requires g t c κs within =
    let short = c.loop-i.invariant.0 in
    let inv = c.loop-i.invariant.1 c.requires.0 c.requires.1 c.requires.2 in
    let many = arity_many (g.S.Signature.arities c.args.symbols.now) 4 c.args.bytes.now c.requires.0 c.requires.1 c.unwrap-arity.result c.if-code-ge-VARIABLE.false (sym c.unwrap-arity.ensures ∙ c.arity.ensures) in
    (omega arith, (within.0, (within.1.0, (within.1.1.0, (within.1.1.1, (argument c.loop-i.i c.requires.0, next_begins (g.S.Signature.arities c.args.symbols.now) 4 c.args.bytes.now c.requires.0 c.requires.1 c.unwrap-arity.result c.if-code-ge-VARIABLE.false (sym c.unwrap-arity.ensures ∙ c.arity.ensures) c.loop-i.i c.loop-i.rest.now inv.0 (omega arith), throughout_argument (g.A.Algebra.fits c.args.algebra.now (g.S.Symbols.interpretation c.args.symbols.now)) c.requires.0 c.loop-i.i (omega arith) c.requires.2))))))

pub enter-requires-clause-inside : goal.enter-requires-clause-inside
enter-requires-clause-inside g t c =
    let few = arity_small (g.S.Signature.arities c.args.symbols.now) (g.S.Symbols.interpretation c.args.symbols.now) (g.met.S.Symbols.proper c.args.symbols.now) (get_or c.args.bytes.now 0 0) c.unwrap-arity.result c.monomials-monomials.result.now (sym c.unwrap-arity.ensures ∙ c.arity.ensures) c.monomials-monomials.ensures in
    omega arith

pub enter-requires-clause-next : goal.enter-requires-clause-next
enter-requires-clause-next g t c =
    let inv = c.loop-i.invariant.1 c.requires.0 c.requires.1 c.requires.2 in
    let many = arity_many (g.S.Signature.arities c.args.symbols.now) 4 c.args.bytes.now c.requires.0 c.requires.1 c.unwrap-arity.result c.if-code-ge-VARIABLE.false (sym c.unwrap-arity.ensures ∙ c.arity.ensures) in
    let next = next_begins (g.S.Signature.arities c.args.symbols.now) 4 c.args.bytes.now c.requires.0 c.requires.1 c.unwrap-arity.result c.if-code-ge-VARIABLE.false (sym c.unwrap-arity.ensures ∙ c.arity.ensures) c.loop-i.i c.loop-i.rest.now inv.0 (omega arith) in
    let fit = throughout_argument (g.A.Algebra.fits c.args.algebra.now (g.S.Symbols.interpretation c.args.symbols.now)) c.requires.0 c.loop-i.i (omega arith) c.requires.2 in
    let found = c.evaluate-value.ensures (argument c.loop-i.i c.requires.0) next fit in
    ((g.S.Symbols.interpretation c.args.symbols.now), arguments c.requires.0, omega arith, inv.1, found.0)

pub loop-i-preserved : goal.loop-i-preserved
loop-i-preserved g t c = (
  (let short = c.loop-i.invariant.0 in
      let inv = c.loop-i.invariant.1 c.requires.0 c.requires.1 c.requires.2 in
      let many = arity_many (g.S.Signature.arities c.args.symbols.now) 4 c.args.bytes.now c.requires.0 c.requires.1 c.unwrap-arity.result c.if-code-ge-VARIABLE.false (sym c.unwrap-arity.ensures ∙ c.arity.ensures) in
      let next = next_begins (g.S.Signature.arities c.args.symbols.now) 4 c.args.bytes.now c.requires.0 c.requires.1 c.unwrap-arity.result c.if-code-ge-VARIABLE.false (sym c.unwrap-arity.ensures ∙ c.arity.ensures) c.loop-i.i c.loop-i.rest.now inv.0 (omega arith) in
      let fit = throughout_argument (g.A.Algebra.fits c.args.algebra.now (g.S.Symbols.interpretation c.args.symbols.now)) c.requires.0 c.loop-i.i (omega arith) c.requires.2 in
      let found = c.evaluate-value.ensures (argument c.loop-i.i c.requires.0) next fit in
      let less = next_shorter (g.S.Signature.arities c.args.symbols.now) 4 c.args.bytes.now c.requires.0 c.requires.1 c.unwrap-arity.result c.if-code-ge-VARIABLE.false (sym c.unwrap-arity.ensures ∙ c.arity.ensures) c.loop-i.i c.loop-i.rest.now inv.0 (omega arith) c.evaluate-value.result.1.now found.1 in
      omega arith),
  λ u b fits.
      let inv = c.loop-i.invariant.1 u b fits in
      let many = arity_many (g.S.Signature.arities c.args.symbols.now) 4 c.args.bytes.now u b c.unwrap-arity.result c.if-code-ge-VARIABLE.false (sym c.unwrap-arity.ensures ∙ c.arity.ensures) in
      let next = next_begins (g.S.Signature.arities c.args.symbols.now) 4 c.args.bytes.now u b c.unwrap-arity.result c.if-code-ge-VARIABLE.false (sym c.unwrap-arity.ensures ∙ c.arity.ensures) c.loop-i.i c.loop-i.rest.now inv.0 (omega arith) in
      let fit = throughout_argument (g.A.Algebra.fits c.args.algebra.now (g.S.Symbols.interpretation c.args.symbols.now)) u c.loop-i.i (omega arith) fits in
      let found = c.evaluate-value.ensures (argument c.loop-i.i u) next fit in
      (found.1, c.enter.ensures (g.S.Symbols.interpretation c.args.symbols.now) (arguments u) (omega arith) inv.1 found.0),
)

pub symbol-requires : goal.symbol-requires
symbol-requires g t c =
    let inv = c.loop-i.invariant.1 c.requires.0 c.requires.1 c.requires.2 in
    let many = arity_many (g.S.Signature.arities c.args.symbols.now) 4 c.args.bytes.now c.requires.0 c.requires.1 c.unwrap-arity.result c.if-code-ge-VARIABLE.false (sym c.unwrap-arity.ensures ∙ c.arity.ensures) in
    let is = (is_symbol (g.S.Signature.arities c.args.symbols.now) 4 c.args.bytes.now c.requires.0 c.requires.1 c.if-code-ge-VARIABLE.false).0 in
    let all : c.loop-i.i ≡ how_many (arguments c.requires.0) = omega arith in (
      (g.S.Signature.arities c.args.symbols.now),
      (g.S.Symbols.interpretation c.args.symbols.now),
      get_or c.args.bytes.now 0 0,
      arguments c.requires.0,
      record { proper = g.met.S.Symbols.proper c.args.symbols.now; sorted = subst (WellSorted (g.S.Signature.arities c.args.symbols.now) 4) is c.requires.1.sorted; polynomial = c.monomials-monomials.ensures },
      subst (g.A.Algebra.fits c.args.algebra.now (g.S.Symbols.interpretation c.args.symbols.now)) is (throughout_here (g.A.Algebra.fits c.args.algebra.now (g.S.Symbols.interpretation c.args.symbols.now)) c.requires.0 c.requires.2),
      subst (λ i. g.A.Algebra.entered c.args.algebra.now (g.S.Symbols.interpretation c.args.symbols.now) (arguments c.requires.0) i c.loop-i.arguments) all inv.1,
    )

pub returns : goal.returns
returns g t c u b fits =
    let inv = c.loop-i.invariant.1 u b fits in
    let many = arity_many (g.S.Signature.arities c.args.symbols.now) 4 c.args.bytes.now u b c.unwrap-arity.result c.if-code-ge-VARIABLE.false (sym c.unwrap-arity.ensures ∙ c.arity.ensures) in
    let is = (is_symbol (g.S.Signature.arities c.args.symbols.now) 4 c.args.bytes.now u b c.if-code-ge-VARIABLE.false).0 in
    let all : c.loop-i.i ≡ how_many (arguments u) = omega arith in
    let here : Application (g.S.Signature.arities c.args.symbols.now) (g.S.Symbols.interpretation c.args.symbols.now) (get_or c.args.bytes.now 0 0) (arguments u) (polynomial_from c.monomials-monomials.result.now) =
    record { proper = g.met.S.Symbols.proper c.args.symbols.now; sorted = subst (WellSorted (g.S.Signature.arities c.args.symbols.now) 4) is b.sorted; polynomial = c.monomials-monomials.ensures } in (
      subst (λ w. g.A.Algebra.worth c.args.algebra.now (g.S.Symbols.interpretation c.args.symbols.now) w c.symbol.result) (sym is)
          (c.symbol.ensures (g.S.Signature.arities c.args.symbols.now) (g.S.Symbols.interpretation c.args.symbols.now) (get_or c.args.bytes.now 0 0) (arguments u) here (subst (g.A.Algebra.fits c.args.algebra.now (g.S.Symbols.interpretation c.args.symbols.now)) is (throughout_here (g.A.Algebra.fits c.args.algebra.now (g.S.Symbols.interpretation c.args.symbols.now)) u fits)) (subst (λ i. g.A.Algebra.entered c.args.algebra.now (g.S.Symbols.interpretation c.args.symbols.now) (arguments u) i c.loop-i.arguments) all inv.1)),
      walk_end (g.S.Signature.arities c.args.symbols.now) 4 c.args.bytes.now u b c.unwrap-arity.result c.if-code-ge-VARIABLE.false (sym c.unwrap-arity.ensures ∙ c.arity.ensures) c.loop-i.i c.loop-i.rest.now inv.0 (omega arith),
    )
