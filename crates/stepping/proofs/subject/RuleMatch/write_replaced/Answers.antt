use Rattle.std.proofs.Common.{false, refl, arith}
use Rattle.std.proofs.Math.Nat.{lt_of_not-le}
use Rattle.std.proofs.lemmas.Bool.Decides.{not_from_Decides}
use Rattle.std.proofs.lemmas.List.{length-take-le}
use Rattle.stepping.specs.Writing.{instance_of}
use Rattle.stepping.proofs.Writes.{three_writes, no_room}
use Rattle.stepping.proofs.subject.RuleMatch.write_replaced.Goals as goal

pub returns-in_err-room : goal.returns-in_err-room
returns-in_err-room c =
    rw c.from_residual.ensures
    (no_room c.args.term.now c.args.place c.args.self.now.found.len c.requires
    (instance_of c.args.self.now) c.args.page.now (omega (arith, c.in_err-room.ensures)))

pub returns-then-not-instance_fits : goal.returns-then-not-instance_fits
returns-then-not-instance_fits c =
    let term = c.args.term.now in
    let found = c.args.self.now in
    let new = instance_of found in
    let longer = lt_of_not-le (not_from_Decides false c.if-not-instance_fits.ensures refl) in
    no_room term c.args.place found.found.len c.requires new c.args.page.now (omega (arith, longer, c.in_ok-room.ensures))

pub write_instance-second-requires : goal.write_instance-second-requires
write_instance-second-requires c =
    omega (arith, c.requires, c.if-not-instance_fits.ensures.0 refl, c.in_ok-room.ensures, c.write-first.ensures.end, c.write-first.auto.page, length-take-le c.args.place c.args.term.now (omega (arith, c.requires)))

pub returns : goal.returns
returns c =
    let found = c.args.self.now in
    three_writes c.args.term.now c.args.place found.found.len c.requires (instance_of found)
    c.args.page.now c.write-first.new.page c.write_instance-second.new.page c.write.new.page
    c.write-first.result c.write_instance-second.result c.write.result
    c.write-first.ensures.end c.write-first.ensures.written
    c.write_instance-second.ensures.end c.write_instance-second.ensures.written
    c.write.ensures.end c.write.ensures.written
    c.in_ok-room.ensures.0
    (omega (arith, c.in_ok-room.ensures, c.if-not-instance_fits.ensures.0 refl))
