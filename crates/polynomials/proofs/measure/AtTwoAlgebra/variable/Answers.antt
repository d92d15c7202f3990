use Rattle.std.proofs.Common.{sym, arith}
use Rattle.polynomials.proofs.Limits.{cut_small}
use Rattle.polynomials.proofs.measure.AtTwoAlgebra.variable.Goals as goal

pub returns : goal.returns
returns c interpretation = sym (cut_small 2147483648 2 (omega arith))
