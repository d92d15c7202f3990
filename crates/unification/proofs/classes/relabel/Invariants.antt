use Rattle.std.proofs.Common.{◌≡◌, ℕ, ◌<◌, ◌≤◌, cond, eqb, get_or}
use Rattle.unification.proofs.classes.relabel.Given as goal

-- the entries below the index are relabelled, and the others are as they were
abbrev pub invariant-loop-r : goal.invariant-loop-r
invariant-loop-r l =
    ((k : ℕ) → k < l.r-index → get_or l.rep k 0 ≡ cond (eqb (get_or l.initial.rep k 0) l.lose) l.keep (get_or l.initial.rep k 0))
    × ((k : ℕ) → l.r-index ≤ k → get_or l.rep k 0 ≡ get_or l.initial.rep k 0)
