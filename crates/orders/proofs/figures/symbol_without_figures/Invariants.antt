-- The symbols before those to come have figures, if the table has the places of the figures.
use Rattle.orders.proofs.FigurePlacing.{LookedUp}
use Rattle.orders.proofs.figures.symbol_without_figures.Given as goal

abbrev pub invariant-loop-symbol : goal.invariant-loop-symbol
invariant-loop-symbol l = LookedUp l.initial.book.tables.bytes.now l.initial.places l.symbol-iterator
