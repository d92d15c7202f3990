use Rattle.std.proofs.Common.{refl}
use Rattle.polynomials.proofs.Tables.{holds_zero}
use Rattle.polynomials.proofs.table.Table.zero.Goals as goal

pub returns : goal.returns
returns c = holds_zero 256 refl
