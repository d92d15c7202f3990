use Rattle.std.proofs.Common.{get_or, arith}
use Rattle.std.proofs.lemmas.Bool.Decides.{not_from_Decides}
use Rattle.book.specs.Meaning.{signature_of}
use Rattle.order_theory.specs.Path.{Greater}
use Rattle.orders.specs.Ranks.{rank_of}
use Rattle.orders.proofs.PathBytes.{says_no, not_empty, variable_no, same_head, higher_head, neither, same_slices, same_yes, some_none, some_first, some_later, all_none, all_first, all_later, left_ends, right_ends, ahead, next_same, next_greater, next_less}
use Rattle.orders.proofs.path.Path.+path_order.Goals as goal

-- ── greater ──

pub greater-returns-in_default : goal.greater-returns-in_default
greater-returns-in_default t c = λ a b p q.
    let bytes = c.args.self.now.book.tables.bytes.now in
    let none = not_empty (signature_of bytes) c.args.s.now a (omega (arith, c.in_default.len_below)) p in
    says_no (Greater (rank_of bytes) a b) (λ g. none)

pub greater-returns-in_default-t : goal.greater-returns-in_default-t
greater-returns-in_default-t t c = λ a b p q.
    let bytes = c.args.self.now.book.tables.bytes.now in
    let none = not_empty (signature_of bytes) c.args.t.now b (omega (arith, c.in_default-t.len_below)) q in
    says_no (Greater (rank_of bytes) a b) (λ g. none)

pub greater-returns-then-f-ge-VARIABLE : goal.greater-returns-then-f-ge-VARIABLE
greater-returns-then-f-ge-VARIABLE t c = λ a b p q.
    let bytes = c.args.self.now.book.tables.bytes.now in
    variable_no (signature_of bytes) (rank_of bytes) c.args.s.now a b c.if-f-ge-VARIABLE.true p

pub greater-returns-then-f-g : goal.greater-returns-then-f-g
greater-returns-then-f-g t c =
    let bytes = c.args.self.now.book.tables.bytes.now in
    same_head (signature_of bytes) (rank_of bytes) c.args.s.now c.args.t.now c.greater_by_arguments.result c.greater_by_arguments.ensures
    (omega (arith, c.if-f-ge-VARIABLE.false)) c.if-f-g.true

pub greater-returns-then-higher : goal.greater-returns-then-higher
greater-returns-then-higher t c =
    let bytes = c.args.self.now.book.tables.bytes.now in
    let f = get_or c.args.s.now 0 0 in
    let g = get_or c.args.t.now 0 0 in
    higher_head (signature_of bytes) (rank_of bytes) c.args.s.now c.args.t.now c.greater_than_all.result c.greater_than_all.ensures
    (omega (arith, c.if-f-ge-VARIABLE.false))
    (c.higher.ensures.0 c.if-higher.true)

pub greater-returns : goal.greater-returns
greater-returns t c =
    let bytes = c.args.self.now.book.tables.bytes.now in
    let f = get_or c.args.s.now 0 0 in
    let g = get_or c.args.t.now 0 0 in
    neither (signature_of bytes) (rank_of bytes) c.args.s.now c.args.t.now c.some_at_least.result c.some_at_least.ensures
    (omega (arith, c.if-f-ge-VARIABLE.false))
    c.if-f-g.false
    (not_from_Decides c.higher.result c.higher.ensures c.if-higher.false)

-- ── greater by the arguments ──

pub greater_by_arguments-returns-in_default : goal.greater_by_arguments-returns-in_default
greater_by_arguments-returns-in_default t c = λ f us vs xs ys p q m ex ey.
    let bytes = c.args.self.now.book.tables.bytes.now in
    left_ends (signature_of bytes) (rank_of bytes) c.args.s.now c.args.t.now c.args.i f us vs xs ys p q m ex ey c.in_default.ensures.first

pub greater_by_arguments-returns-in_default-first_length : goal.greater_by_arguments-returns-in_default-first_length
greater_by_arguments-returns-in_default-first_length t c = λ f us vs xs ys p q m ex ey.
    let bytes = c.args.self.now.book.tables.bytes.now in
    right_ends (signature_of bytes) (rank_of bytes) c.args.s.now c.args.t.now c.args.i f us vs xs ys p q m ex ey c.in_default-first_length.ensures.first

pub greater_by_arguments-returns-then-eq : goal.greater_by_arguments-returns-then-eq
greater_by_arguments-returns-then-eq t c = λ f us vs xs ys p q k ex ey.
    let bytes = c.args.self.now.book.tables.bytes.now in
    let sig = signature_of bytes in
    let i = c.args.i in
    let m = c.in-Some.m in
    let n = c.in-Some-first_length.n in
    let a = ahead sig (rank_of bytes) c.args.s.now c.args.t.now i f us vs xs ys p q k ex ey m n c.in-Some.ensures.first c.in-Some-first_length.ensures.first in
    next_same sig (rank_of bytes) c.args.s.now c.args.t.now i m n f us vs p q a c.greater_by_arguments.result ((same_slices _ _ _ c.eq.ensures).0 c.if-eq.true) c.greater_by_arguments.ensures

pub greater_by_arguments-returns-then-greater : goal.greater_by_arguments-returns-then-greater
greater_by_arguments-returns-then-greater t c = λ f us vs xs ys p q k ex ey.
    let bytes = c.args.self.now.book.tables.bytes.now in
    let sig = signature_of bytes in
    let i = c.args.i in
    let m = c.in-Some.m in
    let n = c.in-Some-first_length.n in
    let a = ahead sig (rank_of bytes) c.args.s.now c.args.t.now i f us vs xs ys p q k ex ey m n c.in-Some.ensures.first c.in-Some-first_length.ensures.first in
    next_greater sig (rank_of bytes) c.args.s.now c.args.t.now i m n f us vs p q a c.greater.result c.greater_than_all.result c.if-greater.true c.greater.ensures c.greater_than_all.ensures

pub greater_by_arguments-returns : goal.greater_by_arguments-returns
greater_by_arguments-returns t c = λ f us vs xs ys p q k ex ey.
    let bytes = c.args.self.now.book.tables.bytes.now in
    let sig = signature_of bytes in
    let i = c.args.i in
    let m = c.in-Some.m in
    let n = c.in-Some-first_length.n in
    let a = ahead sig (rank_of bytes) c.args.s.now c.args.t.now i f us vs xs ys p q k ex ey m n c.in-Some.ensures.first c.in-Some-first_length.ensures.first in
    next_less sig (rank_of bytes) c.args.s.now c.args.t.now i m n f us vs p q a c.greater.result c.some_at_least.result c.if-greater.false (not_from_Decides c.eq.result (same_slices _ _ _ c.eq.ensures) c.if-eq.false) c.greater.ensures c.some_at_least.ensures

-- ── greater or the same ──

pub greater_or_same-returns-then-eq : goal.greater_or_same-returns-then-eq
greater_or_same-returns-then-eq t c = λ a b p q.
    let bytes = c.args.self.now.book.tables.bytes.now in
    rw c.if-eq.true (same_yes (signature_of bytes) (rank_of bytes) c.args.s.now c.args.t.now a b ((same_slices _ _ _ c.eq.ensures).0 c.if-eq.true) p q)

-- ── greater than all ──

pub greater_than_all-returns-in_default : goal.greater_than_all-returns-in_default
greater_than_all-returns-in_default t c = λ a bs p w e.
    let bytes = c.args.self.now.book.tables.bytes.now in
    all_none (signature_of bytes) (rank_of bytes) c.args.ts.now c.in_default.ensures.first a bs w e

pub greater_than_all-returns-then-not-greater : goal.greater_than_all-returns-then-not-greater
greater_than_all-returns-then-not-greater t c =
    let bytes = c.args.self.now.book.tables.bytes.now in
    all_first (signature_of bytes) (rank_of bytes) c.args.ts.now c.in-Some.n c.in-Some.ensures.first
    c.args.s.now c.greater.result c.if-not-greater.true c.greater.ensures

pub greater_than_all-returns : goal.greater_than_all-returns
greater_than_all-returns t c =
    let bytes = c.args.self.now.book.tables.bytes.now in
    all_later (signature_of bytes) (rank_of bytes) c.args.ts.now c.in-Some.n c.in-Some.ensures.first
    c.args.s.now c.greater.result c.greater_than_all.result c.if-not-greater.false c.greater.ensures c.greater_than_all.ensures

-- ── some at least ──

pub some_at_least-returns-in_default : goal.some_at_least-returns-in_default
some_at_least-returns-in_default t c = λ xs b w e q.
    let bytes = c.args.self.now.book.tables.bytes.now in
    some_none (signature_of bytes) (rank_of bytes) c.args.ss.now c.in_default.ensures.first xs b w e

pub some_at_least-returns-then-greater_or_same : goal.some_at_least-returns-then-greater_or_same
some_at_least-returns-then-greater_or_same t c =
    let bytes = c.args.self.now.book.tables.bytes.now in
    some_first (signature_of bytes) (rank_of bytes) c.args.ss.now c.in-Some.n c.in-Some.ensures.first
    c.args.t.now c.greater_or_same.result c.if-greater_or_same.true c.greater_or_same.ensures

pub some_at_least-returns : goal.some_at_least-returns
some_at_least-returns t c =
    let bytes = c.args.self.now.book.tables.bytes.now in
    some_later (signature_of bytes) (rank_of bytes) c.args.ss.now c.in-Some.n c.in-Some.ensures.first
    c.args.t.now c.greater_or_same.result c.some_at_least.result c.if-greater_or_same.false c.greater_or_same.ensures c.some_at_least.ensures
