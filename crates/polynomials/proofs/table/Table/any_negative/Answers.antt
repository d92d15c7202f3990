use Rattle.std.proofs.Common.{◌≡◌, ltb, rules, tests}
use Rattle.std.specs.List.{list_any, zip}
use Rattle.std.proofs.lemmas.Iterator.{YieldsList-from_slice, YieldsList-from_zip}
use Rattle.std.proofs.lemmas.Iterator.Search.{any_from_yields_List}
use Rattle.polynomials.proofs.Comparing.{cells_compared}
use Rattle.polynomials.proofs.table.Table.any_negative.Goals as goal

pub returns : goal.returns
returns c p q a b degrees =
    let e : c.any.result ≡ list_any (λ x. ltb x.0 x.1) (zip c.args.self.now.cells c.args.other.now.cells) =
    any_from_yields_List (λ x. ltb x.0 x.1) c.any.new.self _ _ c.any.ensures.ran (YieldsList-from_zip (YieldsList-from_slice c.args.self.now.cells (cc)) (YieldsList-from_slice c.args.other.now.cells (cc))) (λ x b q k. search (rules, tests)) in
    cells_compared c.args.self.now.cells c.args.other.now.cells p q a b c.any.result e degrees
