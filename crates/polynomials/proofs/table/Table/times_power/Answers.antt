use Rattle.std.proofs.Common.{◌≡◌, sym, subst, arith}
use Rattle.polynomials.specs.Cells.{Holds}
use Rattle.polynomials.proofs.Identities.{raised, raised_start, raised_more, turn_room, holds_power}
use Rattle.polynomials.proofs.table.Table.times_power.Goals as goal

pub loop-k-init : goal.loop-k-init
loop-k-init c p q room = subst (Holds c.args.self.now.cells) (sym (raised_start p q)) room.left

pub times-requires : goal.times-requires
times-requires c = (
  raised c.requires.0 c.requires.1 c.loop-k._k,
  c.requires.1,
  turn_room c.args.self.now.cells c.args.base.now.cells c.loop-k.self.cells c.args.exponent c.requires.0 c.requires.1 c.requires.2 c.loop-k._k (omega arith) (c.loop-k.invariant c.requires.0 c.requires.1 c.requires.2),
)

pub loop-k-preserved : goal.loop-k-preserved
loop-k-preserved c p q room =
    subst (Holds c.times.new.self.cells) (sym (raised_more p q c.loop-k._k))
    (c.times.ensures (raised p q c.loop-k._k) q
    (turn_room c.args.self.now.cells c.args.base.now.cells c.loop-k.self.cells c.args.exponent p q room c.loop-k._k (omega arith) (c.loop-k.invariant p q room)))

pub returns : goal.returns
returns c p q room =
    let e : c.loop-k._k ≡ c.args.exponent = omega arith in
    holds_power c.args.self.now.cells c.args.base.now.cells c.loop-k.self.cells c.args.exponent p q room
    (subst (λ n. Holds c.loop-k.self.cells (raised p q n)) e (c.loop-k.invariant p q room))
