use Rattle.std.proofs.Common.{false, Some, None, refl}
use Rattle.book.specs.Tables.{kept_signature}
use Rattle.book.specs.Views.{meant}
use Rattle.book.proofs.Sides.{both_fit}
use Rattle.book.proofs.tables.Tables.has_sides.Goals as goal

pub returns-in-Some : goal.returns-in-Some
returns-in-Some c = both_fit (kept_signature c.args.self.now) (meant c.args.field.now) (Some c.in-Some.sides) c.fit.result c.in-Some.ensures c.fit.ensures

pub returns-in-None : goal.returns-in-None
returns-in-None c = both_fit (kept_signature c.args.self.now) (meant c.args.field.now) None false c.in-None.ensures refl
