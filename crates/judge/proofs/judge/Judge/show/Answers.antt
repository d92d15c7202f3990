use Rattle.std.proofs.Common.{sym, subst}
use mathlib.Core.Logic.{∥∥₁_map}
use Rattle.book.specs.Meaning.{rules_of}
use Rattle.judge.specs.Calls.{joined}
use Rattle.judge.specs.Kept.{Kept}
use Rattle.judge.specs.Pairs.{LastRanged}
use Rattle.judge.proofs.Keeping.{kept_shows}
use Rattle.judge.proofs.judge.Judge.show.Goals as goal

pub invariant_of-self : goal.invariant_of-self
invariant_of-self c =
    let j = c.args.self.now in
    let rs = rules_of j.book.tables.bytes.now in
    let same = sym c.joined-self.ensures in
    record {
      terminating = j.terminating;
      proper = j.proper;
      ranged = subst (λ s. ∥ LastRanged s.last ∥₁) same j.ranged;
      kept = subst (λ s. ∥ Kept rs s ∥₁) same (∥∥₁_map j.kept (λ k. kept_shows rs j.progress (joined j.progress) _ _ _ _ k c.in_ok-check_show.ensures));
    }
