use Rattle.std.proofs.Common.{arith}
use Rattle.book.proofs.Held.{held_symbols}
use Rattle.book.proofs.book.Book.symbol_count.Goals as goal

pub returns : goal.returns
returns c =
    let t = c.args.self.now.tables in
    omega (arith, held_symbols t c.args.self.now.holds)
