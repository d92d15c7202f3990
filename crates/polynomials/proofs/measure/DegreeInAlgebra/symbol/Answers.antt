use Rattle.std.proofs.Common.{ap, ◌∙◌}
use Rattle.polynomials.specs.Coding.{cut_off}
use Rattle.polynomials.specs.Measured.{Degree}
use Rattle.polynomials.proofs.Measures.{symbol_measured}
use Rattle.polynomials.proofs.measure.DegreeInAlgebra.symbol.Goals as goal

pub returns : goal.returns
returns c sig interpretation f ts here fits entered = c.cut.ensures ∙ ap (cut_off 2147483648) c.symbol_degree.ensures ∙ symbol_measured (Degree c.args.self.now.variable) interpretation ts c.args.arguments.now.numbers f _ here.polynomial entered
