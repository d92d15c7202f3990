use Rattle.judge.proofs.Finding.{fits_if_ok}
use Rattle.judge.proofs.opening.overlap_fits.Goals as goal

pub returns : goal.returns
returns c = rw c.is_ok.ensures.value (fits_if_ok _ _ _ c.pair_of.result c.pair_of.ensures)
