use Rattle.std.proofs.Common.{[], get_or}
use Rattle.polynomials.proofs.Shifting.{parts, all_tables, all_room, all_held}
use Rattle.polynomials.proofs.shifted.ShiftedCoefficientsAlgebra.symbol.Goals as goal

pub compose_tables-requires : goal.compose_tables-requires
compose_tables-requires c =
    let ps = parts c.requires.0 c.requires.1 c.requires.2 c.requires.3 c.args.monomials.now c.requires.4 c.requires.5 in (
      get_or ps 0 [],
      get_or ps 1 [],
      get_or ps 2 [],
      all_tables c.requires.0 c.requires.1 c.requires.2 c.requires.3 c.args.monomials.now c.requires.4 c.requires.5 c.args.arguments.now c.requires.6,
      all_room c.requires.0 c.requires.1 c.requires.2 c.requires.3 c.args.monomials.now c.requires.4 c.requires.5,
    )

pub returns : goal.returns
returns c sig interpretation f ts here fits entered =
    all_held sig interpretation f ts c.args.monomials.now here fits c.compose_tables.result.cells
    (c.compose_tables.ensures _ _ _ (all_tables sig interpretation f ts c.args.monomials.now here fits c.args.arguments.now entered) (all_room sig interpretation f ts c.args.monomials.now here fits))
