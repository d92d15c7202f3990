use Rattle.std.proofs.Common.{◌∙◌}
use Rattle.book.proofs.Held.{held_arity}
use Rattle.book.proofs.book.BookSignature.arity.Goals as goal

pub returns : goal.returns
returns c =
    let t = c.args.self.now.tables in
    c.arity.ensures ∙ held_arity t c.args.self.now.holds c.args.code
