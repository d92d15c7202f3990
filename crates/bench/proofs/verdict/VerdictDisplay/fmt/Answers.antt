use Rattle.std.proofs.Common.{◌%◌, ◌++◌, codes, sym, ap, ◌∙◌, ap₂, subst}
use Rattle.std.specs.Fmt.{HasWritten, styled_decimal}
use Rattle.bench.specs.Lines.{verdict_line}
use Rattle.bench.proofs.Widths.{five_wide}
use Rattle.bench.proofs.verdict.VerdictDisplay.fmt.Goals as goal

pub returns-in-Oriented-clause-writes : goal.returns-in-Oriented-clause-writes
returns-in-Oriented-clause-writes g c = λ plain ok.
    let rules = ap (λ s. styled_decimal s (c.in-Oriented.rules % 100000)) c.laid_out-in-Oriented.ensures ∙ five_wide c.in-Oriented.rules in
    subst (λ w. HasWritten g.W.Write.write_str_gives c.args.f.now w c.write-in-Oriented.new.self)
    (ap (λ w. codes "oriented " ++ w) rules ∙ ap verdict_line (sym c.in-Oriented.is))
    (c.write-in-Oriented.ensures.writes plain ok)

pub returns-in-Read-clause-writes : goal.returns-in-Read-clause-writes
returns-in-Read-clause-writes g c = λ plain ok.
    let symbols = ap (λ s. styled_decimal s (c.in-Read.symbols % 100000)) c.laid_out.ensures ∙ five_wide c.in-Read.symbols in
    let rules = ap (λ s. styled_decimal s (c.in-Read.rules % 100000)) c.laid_out-in-Read.ensures ∙ five_wide c.in-Read.rules in
    subst (λ w. HasWritten g.W.Write.write_str_gives c.args.f.now w c.write.new.self)
    (ap₂ (λ a b. codes "read " ++ (a ++ (codes " " ++ b))) symbols rules ∙ ap verdict_line (sym c.in-Read.is))
    (c.write.ensures.writes plain ok)
