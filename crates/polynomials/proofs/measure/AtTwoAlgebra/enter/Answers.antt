use Rattle.polynomials.specs.Measured.{ValueAtTwo}
use Rattle.polynomials.proofs.Limits.{cut_le}
use Rattle.polynomials.proofs.Measures.{measures_more}
use Rattle.polynomials.proofs.measure.AtTwoAlgebra.enter.Goals as goal

pub put-requires-clause-small : goal.put-requires-clause-small
put-requires-clause-small c = rw c.requires.next.4 (cut_le 2147483648 _)

pub returns : goal.returns
returns c interpretation ts h entered worth = rw c.put.ensures (measures_more ValueAtTwo interpretation ts c.args.arguments.now.numbers c.args.i c.args.value c.requires.inside h entered worth)
