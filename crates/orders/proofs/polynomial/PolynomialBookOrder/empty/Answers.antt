use Rattle.orders.proofs.Interpreting.{nothing, places_whole, places_tell, proper_interpretation}
use Rattle.orders.proofs.polynomial.PolynomialBookOrder.empty.Goals as goal

pub invariant_of-result : goal.invariant_of-result
invariant_of-result c =
    let bs = c.empty.result.tables.bytes.now in
    let none = nothing bs c.new.result c.empty.ensures c.new.ensures in
    record {
      whole = places_whole bs c.new.result none.placed none.there;
      told = places_tell bs c.new.result none.placed none.there;
      proper = ∣ proper_interpretation bs none.there none.figured ∣₁;
    }
