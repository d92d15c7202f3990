use Rattle.std.proofs.Common.{arith}
use Rattle.std.proofs.lemmas.Bool.Decides.{not_from_Decides}
use Rattle.judge.proofs.Numbers.{search_begins, search_goes_on, search_finds, search_ends}
use Rattle.judge.proofs.overlaps.next_overlap.Goals as goal

pub loop-number-init : goal.loop-number-init
loop-number-init c = search_begins c.args.book.now c.args.last.now c.first_behind-number.result c.first_behind-number.ensures.first

pub returns-then-is_overlap : goal.returns-then-is_overlap
returns-then-is_overlap c =
    search_finds c.args.book.now c.args.last.now c.loop-number.number c.numbered-t.result c.loop-number.invariant c.numbered-t.ensures.ranged c.numbered-t.ensures.number (c.is_overlap.ensures.0 c.if-is_overlap.true)

pub loop-number-preserved : goal.loop-number-preserved
loop-number-preserved c =
    search_goes_on c.args.book.now c.args.last.now c.loop-number.number c.numbered-t.result c.loop-number.invariant c.numbered-t.ensures.ranged c.numbered-t.ensures.number (not_from_Decides _ c.is_overlap.ensures c.if-is_overlap.false)

pub returns : goal.returns
returns c = search_ends c.args.book.now c.args.last.now c.loop-number.number c.loop-number.invariant (omega (arith, c.loop-number-test.false, c.rule_count-number-end.ensures))
