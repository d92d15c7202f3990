use Rattle.std.proofs.Common.{sym, subst}
use mathlib.Core.Logic.{∥∥₁_map}
use Rattle.book.specs.Meaning.{rules_of}
use Rattle.judge.specs.Pairs.{LastRanged}
use Rattle.judge.proofs.Keeping.{kept_settles}
use Rattle.judge.proofs.judge.Judge.settle.Goals as goal

pub invariant_of-self : goal.invariant_of-self
invariant_of-self c =
    let j = c.args.self.now in
    let rs = rules_of j.book.tables.bytes.now in
    let t = c.spend-t.result in
    record {
      terminating = j.terminating;
      proper = j.proper;
      ranged = subst (λ s. ∥ LastRanged s.last ∥₁) (sym c.settled-self.ensures) j.ranged;
      kept = ∥∥₁_map j.kept (λ k. kept_settles rs j.progress _ t k (record { is_out = c.is_out.ensures.0 c.if-not-is_out.false; becomes = c.settled-self.ensures }));
    }
