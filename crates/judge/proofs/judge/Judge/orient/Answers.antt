use Rattle.std.proofs.Common.{sym, subst}
use Rattle.book.specs.Meaning.{signature_of, rules_of}
use Rattle.judge.specs.Kept.{Kept}
use Rattle.judge.specs.Pairs.{LastRanged}
use Rattle.judge.proofs.Falling.{falling_terminates, falling_proper}
use Rattle.judge.proofs.Keeping.{kept_start}
use Rattle.judge.proofs.judge.Judge.orient.Goals as goal

pub invariant_of-self : goal.invariant_of-self
invariant_of-self g c =
    let o = c.args.order.now in
    let bs = c.args.book.now.tables.bytes.now in
    let r = c.in_ok-rules_fall.ensures in
    record {
      terminating = ∣ falling_terminates (g.O.Order.signature o) (g.O.Order.grade o) (g.O.Order.over o) (g.O.Order.laws o) (signature_of bs) (rules_of bs) r.0 r.1 ∣₁;
      proper = ∣ falling_proper (g.O.Order.signature o) (g.O.Order.grade o) (signature_of bs) (rules_of bs) r.0 r.1 ∣₁;
      ranged = ∣ subst (λ s. LastRanged s.last) (sym c.start.ensures) tt ∣₁;
      kept = ∣ subst (Kept (rules_of bs)) (sym c.start.ensures) (kept_start (rules_of bs)) ∣₁;
    }
