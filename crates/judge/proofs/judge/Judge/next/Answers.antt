use Rattle.std.proofs.Common.{sym, subst}
use mathlib.Core.Logic.{∥∥₁_map}
use Rattle.book.specs.Meaning.{rules_of}
use Rattle.judge.specs.Calls.{Opens}
use Rattle.judge.specs.Pairs.{LastRanged}
use Rattle.judge.proofs.Keeping.{kept_opens}
use Rattle.judge.proofs.Numbers.{ranged_held, overlap_ranged}
use Rattle.judge.proofs.judge.Judge.next.Goals as goal

pub next_overlap-requires : goal.next_overlap-requires
next_overlap-requires c = ranged_held c.args.self.now.progress.last c.args.self.now.ranged

pub invariant_of-self-2 : goal.invariant_of-self-2
invariant_of-self-2 c =
    let j = c.args.self.now in
    let b = j.book in
    let t = b.tables in
    let opens : Opens (rules_of t.bytes.now) j.progress c.in_ok-t.t _ =
    record { no_ticket_out = cc; is_next = rw c.in_ok-t.ensures.ok_part at c.next_overlap.ensures; fits = c.overlap_fits.ensures.0 c.if-not-overlap_fits.false; becomes = c.opened-self.ensures } in
    record {
      terminating = j.terminating;
      proper = j.proper;
      ranged = subst (λ s. ∥ LastRanged s.last ∥₁) (sym c.opened-self.ensures) ∣ overlap_ranged b c.in_ok-t.t opens.is_next.overlap ∣₁;
      kept = ∥∥₁_map j.kept (λ k. kept_opens (rules_of t.bytes.now) j.progress _ c.in_ok-t.t k opens);
    }
