use Rattle.std.proofs.Common.{◌^◌, ◌-◌, ◌∙◌, arith}
use Rattle.polynomials.proofs.Limits.{cut_multiple}
use Rattle.polynomials.proofs.measure.times_power.Goals as goal

pub returns : goal.returns
returns c = c.cut.ensures ∙ rw (c.saturating_mul.ensures, c.saturating_pow.ensures) (cut_multiple 2147483648 c.args.start c.args.base c.args.exponent (2 ^ 64 - 1) (omega arith))
