use Rattle.std.proofs.Common.{arith}
use Rattle.book.specs.Meaning.{signature_of, rules_of}
use Rattle.judge.proofs.Books.{few_rules, rules_sorted}
use Rattle.judge.proofs.Soundness.{sealing_is_sound}
use Rattle.judge.proofs.Completeness.{sealing_is_complete}
use Rattle.judge.proofs.laws.sealing_laws.Goals as goal

pub returns : goal.returns
returns g c =
    let o = c.args.order.now in
    let b = c.args.book.now in
    let sig = signature_of b.tables.bytes.now in
    let rs = rules_of b.tables.bytes.now in
    record {
      sound = sealing_is_sound (g.O.Order.signature o) (g.O.Order.grade o) (g.O.Order.over o) (g.O.Order.laws o) sig rs (rules_sorted b);
      complete = sealing_is_complete (g.O.Order.signature o) (g.O.Order.grade o) sig rs (omega (arith, few_rules b));
    }
