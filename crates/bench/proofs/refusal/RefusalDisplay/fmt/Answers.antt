use Rattle.std.proofs.Common.{◌%◌, ◌++◌, codes, ap, ◌∙◌, ap₂, subst}
use Rattle.std.specs.Fmt.{HasWritten, styled_decimal}
use Rattle.bench.proofs.Widths.{two_wide, five_wide}
use Rattle.bench.proofs.refusal.RefusalDisplay.fmt.Goals as goal

pub returns-clause-writes : goal.returns-clause-writes
returns-clause-writes g c = λ plain ok.
    let number = ap (λ s. styled_decimal s (c.args.self.now.number % 100)) c.laid_out.ensures ∙ two_wide c.args.self.now.number in
    let place = ap (λ s. styled_decimal s (c.args.self.now.place % 100000)) c.laid_out-2.ensures ∙ five_wide c.args.self.now.place in
    subst (λ w. HasWritten g.W.Write.write_str_gives c.args.f.now w c.write.new.self)
    (ap₂ (λ a b. codes "refused " ++ (a ++ (codes " " ++ b))) number place)
    (c.write.ensures.writes plain ok)
