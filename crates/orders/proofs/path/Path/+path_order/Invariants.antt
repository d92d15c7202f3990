-- The summed lengths of both terms fall; of one pair of lengths, the functions stand above each other as they call.
use Rattle.std.proofs.Common.{◌+◌, ◌-◌, ◌*◌, length}
use Rattle.orders.proofs.path.Path.+path_order.Given as goal

abbrev pub decreases-greater : goal.decreases-greater
decreases-greater l = 3 * (length l.s.now + length l.t.now)

abbrev pub decreases-greater_or_same : goal.decreases-greater_or_same
decreases-greater_or_same l = 3 * (length l.s.now + length l.t.now) + 1

abbrev pub decreases-some_at_least : goal.decreases-some_at_least
decreases-some_at_least l = 3 * (length l.ss.now + length l.t.now) + 2

abbrev pub decreases-greater_than_all : goal.decreases-greater_than_all
decreases-greater_than_all l = 3 * (length l.s.now + length l.ts.now) + 2

abbrev pub decreases-greater_by_arguments : goal.decreases-greater_by_arguments
decreases-greater_by_arguments l = 3 * (length l.s.now + length l.t.now) - l.i
