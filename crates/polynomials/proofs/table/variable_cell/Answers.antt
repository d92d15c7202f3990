use Rattle.std.proofs.Common.{◌-◌, arith}
use Rattle.polynomials.proofs.Tables.{power_within}
use Rattle.polynomials.proofs.table.variable_cell.Goals as goal

pub pow-requires : goal.pow-requires
pow-requires c = let h = power_within (c.args.x - 128) (omega arith) in omega arith

pub returns-clause-below : goal.returns-clause-below
returns-clause-below c = let h = power_within (c.args.x - 128) (omega arith) in rw c.pow.ensures h
