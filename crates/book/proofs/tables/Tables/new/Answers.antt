use Rattle.std.proofs.Common.{refl, ap, take}
use Rattle.book.proofs.tables.Tables.new.Goals as goal

pub returns : goal.returns
returns c = record {
  bytes = refl;
  tabled = record { arities_are = c.new.ensures; symbols_are = refl; rules_are = ap (λ n. take n c.new-2.result.entries) c.new-2.ensures; count_is = c.new-2.ensures };
}
