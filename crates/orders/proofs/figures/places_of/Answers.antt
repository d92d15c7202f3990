use Rattle.std.proofs.Common.{[], ◌∷◌, ◌++◌, ◌∙◌, arith}
use Rattle.std.proofs.lemmas.Result.{err_from_is_err_and}
use Rattle.book.specs.Meaning.{signature_of}
use Rattle.book.specs.Queries.{located_as}
use Rattle.book.specs.Walks.{fields_left}
use Rattle.book.proofs.Pairs.{held_value, held_short}
use Rattle.orders.proofs.FigurePlacing.{some_byte, all_pass_push, next_split, next_passed, next_refused, from_the_start}
use Rattle.orders.proofs.figures.places_of.Goals as goal

pub loop-field-init : goal.loop-field-init
loop-field-init g c =
    let e = c.fields-field-items.ensures in
    rw c.into_iter-field-iterator.ensures.into_iter_gives
    (record { before = []; split = from_the_start c.args.book.now.tables.bytes.now g.F.FieldQuestions.TAG c.fields-field-items.result (e.0, e.1 ∙ c.TAG.ensures, e.2); passed = tt; placed = c.new-places.ensures })

pub enter_figures-requires : goal.enter_figures-requires
enter_figures-requires g c =
    let b = c.args.book.now in
    let t = b.tables in
    let tag = g.F.FieldQuestions.TAG in
    let i = c.loop-field.invariant in
    let l = located_as c.in-Some.field in
    let split = next_split t.bytes.now tag c.loop-field.field-iterator c.next.new.self c.in-Some.field c.in-Some.ensures.steps i.before i.split in
    let there = held_value t tag i.before (fields_left c.next.new.self) l split b.holds in
    record { some = some_byte t.bytes.now tag l g.met.F.FieldQuestions.coded there; inside = omega (arith, there.inside, held_short t b.holds) }

pub check-requires : goal.check-requires
check-requires g c =
    let b = c.args.book.now in
    let t = b.tables in
    let tag = g.F.FieldQuestions.TAG in
    let i = c.loop-field.invariant in
    let l = located_as c.in-Some.field in
    let split = next_split t.bytes.now tag c.loop-field.field-iterator c.next.new.self c.in-Some.field c.in-Some.ensures.steps i.before i.split in
    some_byte t.bytes.now tag l g.met.F.FieldQuestions.coded (held_value t tag i.before (fields_left c.next.new.self) l split b.holds)

pub returns-then-not-enter_figures : goal.returns-then-not-enter_figures
returns-then-not-enter_figures g c =
    let bs = c.args.book.now.tables.bytes.now in
    let i = c.loop-field.invariant in
    let no = (c.enter_figures.ensures i.before i.placed).1 c.if-not-enter_figures.true in
    next_refused bs g.F.FieldQuestions.TAG c.loop-field.field-iterator c.next.new.self c.in-Some.field c.in-Some.ensures.steps i.before i.split g.F.FieldQuestions.asked i.passed
    _ (c.not_first.ensures.number (signature_of bs) i.before (located_as c.in-Some.field) no) _ c.not_first.ensures.offset

pub returns-in_err-check : goal.returns-in_err-check
returns-in_err-check g c =
    let bs = c.args.book.now.tables.bytes.now in
    let i = c.loop-field.invariant in
    let yes = (c.enter_figures.ensures i.before i.placed).0 c.if-not-enter_figures.false in
    let no = c.in_err-check.ensures i.before yes.0 in
    let p = err_from_is_err_and c.from_residual.result c.from_residual.ensures.1 in
    rw (p.1, p.2)
    (next_refused bs g.F.FieldQuestions.TAG c.loop-field.field-iterator c.next.new.self c.in-Some.field c.in-Some.ensures.steps i.before i.split g.F.FieldQuestions.asked i.passed
    _ no.0 _ no.1)

pub loop-field-preserved : goal.loop-field-preserved
loop-field-preserved g c =
    let bs = c.args.book.now.tables.bytes.now in
    let i = c.loop-field.invariant in
    let l = located_as c.in-Some.field in
    let yes = (c.enter_figures.ensures i.before i.placed).0 c.if-not-enter_figures.false in
    record {
      before = i.before ++ l ∷ [];
      split = next_passed bs g.F.FieldQuestions.TAG c.loop-field.field-iterator c.next.new.self c.in-Some.field c.in-Some.ensures.steps i.before i.split;
      passed = all_pass_push g.F.FieldQuestions.asked (signature_of bs) [] i.before l i.passed (c.in_ok-check.ensures i.before yes.0);
      placed = yes.1;
    }
