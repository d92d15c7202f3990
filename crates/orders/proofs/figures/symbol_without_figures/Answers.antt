use Rattle.std.proofs.Common.{is_some, [], ◌∷◌, ◌++◌, get_or, sym, refl, ap, ◌∙◌, subst, arith}
use Rattle.book.specs.Meaning.{fields_of}
use Rattle.book.specs.Queries.{located_as}
use Rattle.book.specs.Walks.{fields_left}
use Rattle.book.proofs.Pairs.{held_pair}
use Rattle.orders.specs.Figures.{AllHave}
use Rattle.orders.proofs.FigurePlacing.{is_none, some_field, no_field, all_have_push, next_split, next_passed, none_left, from_the_start}
use Rattle.orders.proofs.figures.symbol_without_figures.Goals as goal

pub loop-symbol-init : goal.loop-symbol-init
loop-symbol-init c =
    rw c.into_iter-symbol-iterator.ensures.into_iter_gives
    (record { before = []; split = from_the_start c.args.book.now.tables.bytes.now 1 c.fields-symbol-items.result c.fields-symbol-items.ensures; have = λ tag p. tt })

pub bounds-symbol-0 : goal.bounds-symbol-0
bounds-symbol-0 c =
    let b = c.args.book.now in
    let t = b.tables in
    let i = c.loop-symbol.invariant in
    let split = next_split t.bytes.now 1 c.loop-symbol.symbol-iterator c.next.new.self c.in-Some.symbol c.in-Some.ensures.steps i.before i.split in
    let two = (held_pair t 1 refl i.before (fields_left c.next.new.self) (located_as c.in-Some.symbol) split b.holds).two in
    omega (arith, two)

pub returns-then-is_none : goal.returns-then-is_none
returns-then-is_none c = λ tag placed.
    let bs = c.args.book.now.tables.bytes.now in
    let i = c.loop-symbol.invariant in
    let code = get_or c.in-Some.symbol.value.now 0 0 in
    record {
      before = i.before;
      field = located_as c.in-Some.symbol;
      rest = fields_left c.next.new.self;
      symbols_are = next_split bs 1 c.loop-symbol.symbol-iterator c.next.new.self c.in-Some.symbol c.in-Some.ensures.steps i.before i.split;
      good = i.have tag placed;
      no = no_field (fields_of bs tag) code (sym (placed code) ∙ sym c.get.ensures ∙ is_none c.get.result c.if-is_none.ensures);
      offset = refl;
    }

pub loop-symbol-preserved : goal.loop-symbol-preserved
loop-symbol-preserved c =
    let bs = c.args.book.now.tables.bytes.now in
    let i = c.loop-symbol.invariant in
    let code = get_or c.in-Some.symbol.value.now 0 0 in
    let l = located_as c.in-Some.symbol in
    record {
      before = i.before ++ l ∷ [];
      split = next_passed bs 1 c.loop-symbol.symbol-iterator c.next.new.self c.in-Some.symbol c.in-Some.ensures.steps i.before i.split;
      have = λ tag p. all_have_push (fields_of bs tag) i.before l (i.have tag p) (some_field (fields_of bs tag) code (sym (ap is_some (c.get.ensures ∙ p code)) ∙ c.if-is_none.ensures));
    }

pub returns : goal.returns
returns c = λ tag placed.
    let bs = c.args.book.now.tables.bytes.now in
    let i = c.loop-symbol.invariant in
    subst (AllHave (fields_of bs tag)) (sym (none_left bs 1 c.loop-symbol.symbol-iterator c.next.new.self c.in-None.ensures.steps i.before i.split)) (i.have tag placed)
