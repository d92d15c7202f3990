use Rattle.std.proofs.Common.{sym, subst, [], length, arith, ap, ◌∙◌}
use Rattle.book.specs.Format.{book_bytes, fields}
use Rattle.book.specs.Questions.{Good}
use Rattle.book.specs.Tables.{TablesOf}
use Rattle.book.proofs.book.Book.empty.Goals as goal

pub invariant_of-result : goal.invariant_of-result
invariant_of-result c =
    let t = c.new.result in
    let none = ap fields (sym c.new.ensures.bytes) in
    record {
      holds = ∣ record {
        short = omega (arith, ap length c.new.ensures.bytes);
        row = sym (ap book_bytes none) ∙ sym c.new.ensures.bytes;
        good = subst (Good []) none tt;
        tabled = subst (TablesOf t) none c.new.ensures.tabled;
      } ∣₁;
    }
