use Rattle.std.proofs.Common.{cond, refl, arith}
use Rattle.polynomials.specs.Polynomial.{constant, same}
use Rattle.polynomials.specs.Cells.{exponents_at}
use Rattle.polynomials.specs.Meant.{meant}
use Rattle.polynomials.proofs.Composing.{one_in, two_in, room_one, room_two, room_three, hold_one, hold_two, hold_three, three_same, three_room}
use Rattle.polynomials.proofs.shifted.add_monomial.Goals as goal

pub times_power-requires : goal.times_power-requires
times_power-requires c = (constant c.args.monomial.factor, c.requires.room.0, room_one (meant c.args.monomial) c.requires.room.0 c.requires.room.1 c.requires.room.2 c.requires.room.4 c.args.tables.now c.requires.room.3 c.constant-term.result.cells c.constant-term.ensures)

pub times_power-requires-2 : goal.times_power-requires-2
times_power-requires-2 c = (
  one_in (meant c.args.monomial) c.requires.room.0 c.requires.room.1 c.requires.room.2 c.requires.room.4,
  c.requires.room.1,
  room_two (meant c.args.monomial) c.requires.room.0 c.requires.room.1 c.requires.room.2 c.requires.room.4 c.args.tables.now c.requires.room.3 c.times_power.new.self.cells (hold_one (meant c.args.monomial) c.requires.room.0 c.requires.room.1 c.requires.room.2 c.requires.room.4 c.args.tables.now c.requires.room.3 c.constant-term.result.cells c.constant-term.ensures c.times_power.new.self.cells c.times_power.ensures),
)

pub times_power-requires-3 : goal.times_power-requires-3
times_power-requires-3 c = (
  two_in (meant c.args.monomial) c.requires.room.0 c.requires.room.1 c.requires.room.2 c.requires.room.4,
  c.requires.room.2,
  room_three (meant c.args.monomial) c.requires.room.0 c.requires.room.1 c.requires.room.2 c.requires.room.4 c.args.tables.now c.requires.room.3 c.times_power-2.new.self.cells (hold_two (meant c.args.monomial) c.requires.room.0 c.requires.room.1 c.requires.room.2 c.requires.room.4 c.args.tables.now c.requires.room.3 c.constant-term.result.cells c.constant-term.ensures c.times_power.new.self.cells c.times_power.ensures c.times_power-2.new.self.cells c.times_power-2.ensures),
)

pub add-requires : goal.add-requires
add-requires c k h =
    let e = (hold_three (meant c.args.monomial) c.requires.room.0 c.requires.room.1 c.requires.room.2 c.requires.room.4 c.args.tables.now c.requires.room.3 c.constant-term.result.cells c.constant-term.ensures c.times_power.new.self.cells c.times_power.ensures c.times_power-2.new.self.cells c.times_power-2.ensures c.times_power-3.new.self.cells c.times_power-3.ensures).each k h in
    let l = three_room (meant c.args.monomial) c.requires.room.0 c.requires.room.1 c.requires.room.2 c.requires.room.4 (exponents_at k) in
    let s = c.requires.small k h in
    omega arith

pub returns-clause-each : goal.returns-clause-each
returns-clause-each c p q s holds fits k h =
    let m = meant c.args.monomial in
    let e = (hold_three m p q s fits c.args.tables.now holds c.constant-term.result.cells c.constant-term.ensures c.times_power.new.self.cells c.times_power.ensures c.times_power-2.new.self.cells c.times_power-2.ensures c.times_power-3.new.self.cells c.times_power-3.ensures).each k h in
    let a = c.add.ensures.each k h in
    let eq = three_same m p q s fits refl (λ a. cond (same a (exponents_at k)) 1 0) in
    omega arith
