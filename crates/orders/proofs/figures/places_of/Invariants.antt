-- The fields before those to come pass, and the table has their places.
use Rattle.orders.proofs.FigurePlacing.{EnteredTo}
use Rattle.orders.proofs.figures.places_of.Given as goal

abbrev pub invariant-loop-field : goal.invariant-loop-field
invariant-loop-field g l = EnteredTo g.F.FieldQuestions.asked l.initial.book.tables.bytes.now g.F.FieldQuestions.TAG l.places l.field-iterator
