use Rattle.std.proofs.Common.{◌∙◌, arith}
use Rattle.polynomials.proofs.Holding.{times_apart, times_room, times_same}
use Rattle.polynomials.proofs.table.Table.times.Goals as goal

pub add_product-requires : goal.add_product-requires
add_product-requires c = record {
  apart = times_apart c.args.self.now.cells c.args.a.now.cells c.requires.0 c.requires.1 c.requires.2;
  room = λ k h.
      let z = c.zero-product.ensures.each k h in
      let r = times_room c.args.self.now.cells c.args.a.now.cells c.requires.0 c.requires.1 c.requires.2 k in
      omega arith;
}

pub returns : goal.returns
returns c p q room = record {
  full = c.add_product.ensures.full ∙ c.zero-product.ensures.full;
  each = λ k h.
      let z = c.zero-product.ensures.each k h in
      let s = times_same c.args.self.now.cells c.args.a.now.cells p q room k in
      let e = c.add_product.ensures.each k h in
      omega arith;
}
