use Rattle.std.proofs.Common.{refl}
use Rattle.std.proofs.lemmas.Result.{err_from_is_err_and}
use Rattle.book.proofs.Pairs.{held_pair}
use Rattle.orders.proofs.Ranking.{ranks_answered, ranks_refused, table_tells}
use Rattle.orders.proofs.path.PathBookOrder.make.Goals as goal

pub returns-in_err-ranks : goal.returns-in_err-ranks
returns-in_err-ranks c =
    let p = err_from_is_err_and c.from_residual.result c.from_residual.ensures.1 in
    rw (p.1, p.2) (record { answer = ranks_refused _ _ _ c.in_err-ranks.ensures; place = refl })

pub invariant_of-self : goal.invariant_of-self
invariant_of-self c =
    let b = c.args.book.now in
    let t = b.tables in
    record {
      ranked = table_tells t.bytes.now c.in_ok-ranks.ranks c.in_ok-ranks.ensures.1
          (λ before rest l e. held_pair t 4 refl before rest l e b.holds);
    }

pub returns : goal.returns
returns c = record { answer = ranks_answered c.args.book.now.tables.bytes.now c.in_ok-ranks.ensures.0; place = refl }
