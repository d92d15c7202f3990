use Rattle.std.proofs.Common.{refl}
use Rattle.stepping.proofs.Bytes.{reads_itself}
use Rattle.stepping.proofs.subject.Subject.new.Goals as goal

pub invariant_of-result : goal.invariant_of-result
invariant_of-result c = record { reads = reads_itself _ _ _ (c.if-not-is_term.ensures.0 refl) }
