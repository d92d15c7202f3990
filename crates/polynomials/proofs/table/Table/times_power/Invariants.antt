use Rattle.polynomials.specs.Polynomial.{Polynomial}
use Rattle.polynomials.specs.Cells.{Holds, PowerRoom}
use Rattle.polynomials.proofs.Identities.{raised}
use Rattle.polynomials.proofs.table.Table.times_power.Given as goal

abbrev pub invariant-loop-k : goal.invariant-loop-k
invariant-loop-k l =
    (p q : Polynomial) → PowerRoom l.initial.self.cells l.base.cells l.exponent p q → Holds l.self.cells (raised p q l._k)
