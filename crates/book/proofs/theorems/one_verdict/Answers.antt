use Rattle.book.proofs.Verdicts.{one_verdict}
use Rattle.book.proofs.theorems.one_verdict.Goals as goal

pub returns : goal.returns
returns c = one_verdict
