use Rattle.std.proofs.Common.{◌∙◌}
use Rattle.polynomials.specs.Measured.{ValueAtTwo}
use Rattle.polynomials.proofs.Measures.{symbol_measured}
use Rattle.polynomials.proofs.measure.AtTwoAlgebra.symbol.Goals as goal

pub returns : goal.returns
returns c sig interpretation f ts here fits entered = c.symbol_value.ensures ∙ symbol_measured ValueAtTwo interpretation ts c.args.arguments.now.numbers f _ here.polynomial entered
