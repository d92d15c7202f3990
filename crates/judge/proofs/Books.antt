-- What the rules of a book have.
use Rattle.std.proofs.Common.{◌≤◌, length, arith}
use Rattle.rewriting.specs.Rewrite.{RulesOf}
use Rattle.book.specs.declared.book.Book.{Book}
use Rattle.book.specs.Meaning.{signature_of, rules_of}
use Rattle.book.proofs.Held.{held_count, held_few}
use Rattle.book.proofs.RuleSides.{held_left, held_right}

pub few_rules : (b : Book) → length (rules_of b.tables.bytes.now) ≤ 32
few_rules b = omega (arith, held_few b.tables b.holds, held_count b.tables b.holds)

-- their sides are terms of its signature
pub rules_sorted : (b : Book) → RulesOf (signature_of b.tables.bytes.now) 4 (rules_of b.tables.bytes.now)
rules_sorted b i h = (held_left b.tables i h b.holds, held_right b.tables i h b.holds)
