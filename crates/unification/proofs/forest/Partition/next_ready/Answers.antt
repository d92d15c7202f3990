use Rattle.std.proofs.Common.{arith}
use Rattle.unification.proofs.StandingFacts.{end_range}
use Rattle.unification.proofs.forest.Partition.next_ready.Goals as goal

pub is_ready-requires-clause-within : goal.is_ready-requires-clause-within
is_ready-requires-clause-within g c = (end_range _ _ _ _ c.args.self.now.forest.now.laid.terms c.args.self.now.forest.now.laid.ends (omega arith)).1
