use Rattle.std.proofs.Common.{[], sym, subst, arith}
use Rattle.rewriting.specs.Relation.{Terminating}
use Rattle.rewriting.specs.Rewrite.{StepOf, Proper}
use Rattle.book.specs.Meaning.{signature_of, rules_of}
use Rattle.judge.specs.Kept.{Kept}
use Rattle.judge.specs.Pairs.{LastRanged}
use Rattle.judge.proofs.Falling.{nothing_terminates}
use Rattle.judge.proofs.Keeping.{kept_start}
use Rattle.judge.proofs.judge.Judge.empty.Goals as goal

pub invariant_of-result : goal.invariant_of-result
invariant_of-result c =
    let bs = c.empty.result.tables.bytes.now in
    record {
      terminating = ∣ subst (λ bs. Terminating (StepOf (signature_of bs) 8 (rules_of bs))) (sym c.empty.ensures) (nothing_terminates (signature_of [])) ∣₁;
      proper = ∣ subst (λ bs. Proper (rules_of bs)) (sym c.empty.ensures) (λ i h. absurd (omega (arith, h))) ∣₁;
      ranged = ∣ subst (λ s. LastRanged s.last) (sym c.start.ensures) tt ∣₁;
      kept = ∣ subst (Kept (rules_of bs)) (sym c.start.ensures) (kept_start (rules_of bs)) ∣₁;
    }
