use Rattle.std.proofs.Common.{◌+◌, get_or, refl, subst, arith}
use Rattle.std.proofs.lemmas.Bool.{iff_false}
use Rattle.book.specs.Views.{meant}
use Rattle.book.specs.Places.{Entered}
use Rattle.book.specs.Questions.{SymbolFits}
use Rattle.book.proofs.Entering.{place_free, symbol_new, symbol_push}
use Rattle.book.proofs.tables.Tables.enter_symbol.Goals as goal
use Rattle.book.proofs.tables.Tables.enter_symbol.Goals.{then-code-eq0-via-then-code-eq0, then-code-eq0-via-else-code-eq0+then-arity-gt-ARITY_LIMIT, then-code-eq0-via-else-code-eq0+else-arity-gt-ARITY_LIMIT+then-not-enter}

pub returns-then-code-eq0-clause-answer : goal.returns-then-code-eq0-clause-answer
returns-then-code-eq0-clause-answer c = λ before s t. (
  (λ fits. elim c.then-code-eq0.branch [
    | then-code-eq0-via-then-code-eq0 w ↦ omega (arith, fits.least)
    | then-code-eq0-via-else-code-eq0+then-arity-gt-ARITY_LIMIT w ↦ omega (arith, fits.few)
    | then-code-eq0-via-else-code-eq0+else-arity-gt-ARITY_LIMIT+then-not-enter w ↦ iff_false w.enter.ensures.free w.if-not-enter.true (fits.most, place_free _ before s.laid s.told (meant c.args.field.now) fits)
  ]),
  refl,
  refl,
)

pub returns : goal.returns
returns c = record {
  bytes = refl;
  answer = λ before s t.
      let f = meant c.args.field.now in
      let free = c.enter.ensures.free.0 c.if-not-enter.false in
      let fits : SymbolFits before f = record { least = omega arith; most = free.0; new = symbol_new _ before s.laid s.told f free.1; few = omega arith } in (
        fits,
        symbol_push _ before s.told f _ t fits (subst (λ p. Entered c.args.self.now.arities (get_or c.args.field.now.value.now 0 0) (p + 4) c.enter.new.self) s.offset c.if-not-enter.ensures.entered) refl refl,
      );
}
