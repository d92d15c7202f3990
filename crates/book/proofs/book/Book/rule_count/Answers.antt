use Rattle.std.proofs.Common.{arith}
use Rattle.book.proofs.Held.{held_count, held_few}
use Rattle.book.proofs.book.Book.rule_count.Goals as goal

pub returns : goal.returns
returns c =
    let t = c.args.self.now.tables in
    let held = c.args.self.now.holds in (
      omega (arith, held_count t held),
      omega (arith, held_few t held),
    )
