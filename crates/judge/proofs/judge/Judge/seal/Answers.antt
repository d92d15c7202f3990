use mathlib.Core.Logic.{∥∥₁_elim, ∥∥₁_prop, ∥∥₁_map}
use Rattle.book.specs.Meaning.{signature_of, rules_of}
use Rattle.judge.proofs.Books.{rules_sorted}
use Rattle.judge.proofs.Numbers.{ranged_held}
use Rattle.judge.proofs.Soundness.{sealed_convergent}
use Rattle.judge.proofs.judge.Judge.seal.Goals as goal

pub next_overlap-requires : goal.next_overlap-requires
next_overlap-requires c = ranged_held c.args.self.now.progress.last c.args.self.now.ranged

pub invariant_of-place : goal.invariant_of-place
invariant_of-place c =
    let j = c.args.self.now in
    let sig = signature_of j.book.tables.bytes.now in
    let rs = rules_of j.book.tables.bytes.now in
    let rules = rules_sorted j.book in
    record {
      convergent = ∥∥₁_elim j.terminating ∥∥₁_prop (λ ends. ∥∥₁_elim j.proper ∥∥₁_prop (λ proper. ∥∥₁_map j.kept (λ kept. record {
        rules = rules;
        proper = proper;
        terminating = ends;
        confluent = sealed_convergent sig rs j.progress rules proper ends kept (record { no_ticket_out = cc; all_opened = c.in_default.ensures; all_joined = c.in_default-unjoined.is });
      })));
    }
