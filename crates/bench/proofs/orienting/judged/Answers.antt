use Rattle.std.proofs.Common.{subst, inl}
use Rattle.bench.specs.Lines.{line_of}
use Rattle.bench.specs.Orienting.{BookLine}
use Rattle.bench.proofs.orienting.judged.Goals as goal

pub returns : goal.returns
returns c = inl (c.in_ok-read.ensures.answer, subst (λ bs. BookLine bs (line_of c.judged_book.result)) c.in_ok-read.ensures.place c.judged_book.ensures)
