use Rattle.std.proofs.Common.{◌≡◌, length, ap, arith}
use Rattle.polynomials.specs.Coding.{monomial_at}
use Rattle.polynomials.proofs.Reading.{none_read, one_read}
use Rattle.polynomials.proofs.monomial.MonomialsIterator.next.Goals as goal

pub returns-in_default-clause-steps : goal.returns-in_default-clause-steps
returns-in_default-clause-steps c = let e = none_read c.args.self.now.bytes.now (omega arith) in (e, e)

pub returns-clause-steps : goal.returns-clause-steps
returns-clause-steps c =
    let e = one_read c.args.self.now.bytes.now (omega arith) in
    let r = c.from_be_bytes.ensures in
    let f : (monomial_at c.args.self.now.bytes.now 0).factor ≡ c.from_be_bytes.result = omega arith in
    rw (← f) e

pub returns-clause-goes : goal.returns-clause-goes
returns-clause-goes c =
    let l = ap length (one_read c.args.self.now.bytes.now (omega arith)) in
    record { on = λ f. (tt, tt, omega arith); keeps = tt; rests = λ f. tt }
