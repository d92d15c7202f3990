use Rattle.unification.proofs.LaidSides.{term_low, read_term, laid_sides}
use Rattle.unification.proofs.laying.lay_sides.Goals as goal

pub lay-requires-clause-low : goal.lay-requires-clause-low
lay-requires-clause-low g c = term_low _ 4 _ c.requires.left.term

pub lay-requires-2-clause-low : goal.lay-requires-2-clause-low
lay-requires-2-clause-low g c = term_low _ 4 _ c.requires.second.term

pub lay-requires-3-clause-low : goal.lay-requires-3-clause-low
lay-requires-3-clause-low g c = term_low _ 4 _ c.requires.right.term

pub lay-requires-4-clause-low : goal.lay-requires-4-clause-low
lay-requires-4-clause-low g c = term_low _ 4 _ c.requires.last.term

pub returns-clause-sides : goal.returns-clause-sides
returns-clause-sides g c =
    laid_sides _ _ _ _ _ _ _ _ _ _ (read_term _ 4 _ c.requires.left.term) (read_term _ 4 _ c.requires.second.term) (read_term _ 4 _ c.requires.right.term) (read_term _ 4 _ c.requires.last.term)
    c.new-codes.ensures c.lay.ensures.codes c.lay-2.ensures.codes c.lay-3.ensures.codes c.lay-4.ensures.codes c.lay-2.ensures.long
