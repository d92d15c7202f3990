use Rattle.std.proofs.Common.{refl}
use Rattle.std.proofs.lemmas.Result.{err_from_is_err_and}
use Rattle.book.specs.Meaning.{fields_of}
use Rattle.book.proofs.Pairs.{held_value}
use Rattle.orders.proofs.Interpreting.{AllThere, places_whole, places_tell, proper_interpretation}
use Rattle.orders.proofs.polynomial.PolynomialBookOrder.make.Goals as goal

pub returns-in_err-places : goal.returns-in_err-places
returns-in_err-places c =
    let p = err_from_is_err_and c.from_residual.result c.from_residual.ensures.1 in
    rw (p.1, p.2) (record { answer = c.in_err-places.ensures; place = refl })

pub invariant_of-self : goal.invariant_of-self
invariant_of-self c =
    let b = c.args.book.now in
    let t = b.tables in
    let made = c.in_ok-places.ensures in
    let there : AllThere t.bytes.now (fields_of t.bytes.now 3) = λ before rest l e. held_value t 3 before rest l e b.holds in
    record {
      whole = places_whole t.bytes.now c.in_ok-places.places made.1 there;
      told = places_tell t.bytes.now c.in_ok-places.places made.1 there;
      proper = ∣ proper_interpretation t.bytes.now there made.0 ∣₁;
    }
