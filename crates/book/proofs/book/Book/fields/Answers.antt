use Rattle.std.proofs.Common.{drop, sym, subst, ap₂}
use Rattle.book.specs.Format.{Row}
use Rattle.book.proofs.Held.{held_row}
use Rattle.book.proofs.book.Book.fields.Goals as goal

pub invariant_of-result : goal.invariant_of-result
invariant_of-result c =
    let t = c.args.self.now.tables in
    let made = c.new.ensures in
    record { row = subst Row (sym (ap₂ drop made.1 made.0)) (held_row t c.args.self.now.holds) }
