use Rattle.std.proofs.Common.{◌≤◌, [], length, sym, ap, ◌∙◌, subst, arith}
use Rattle.unification.specs.Numbering.{seen_among}
use Rattle.unification.proofs.Few.{few_codes}
use Rattle.unification.proofs.Overlaps.{sides_ordered, part_end, peak_low, too_long_peak, too_long_outer, too_long_inner, pair_written}
use Rattle.unification.proofs.critical.write_pair.Goals as goal

pub instance-requires-clause-inside : goal.instance-requires-clause-inside
instance-requires-clause-inside g c = (sides_ordered _ _ _ _ _ _ _ c.requires.sides.2).0

pub returns-in_err-peak : goal.returns-in_err-peak
returns-in_err-peak g c = λ a b s. rw c.from_residual.ensures (too_long_peak _ _ _ _ _ a b s _ _ _ c.requires.inside c.requires.unified (c.in_err-peak.ensures c.requires.unified.μ c.requires.unified.solves))

pub instance-requires-2-clause-inside : goal.instance-requires-2-clause-inside
instance-requires-2-clause-inside g c = (sides_ordered _ _ _ _ _ _ _ c.requires.sides.2).2

pub returns-in_err-outer : goal.returns-in_err-outer
returns-in_err-outer g c = λ a b s. rw c.from_residual-in_err-outer.ensures (too_long_outer _ _ _ _ _ a b s _ _ _ c.requires.inside c.requires.unified (c.in_err-outer.ensures c.requires.unified.μ c.requires.unified.solves))

pub replaced-requires : goal.replaced-requires
replaced-requires g c =
    let o = sides_ordered _ _ _ _ _ _ _ c.requires.sides.2 in
    let e = part_end _ _ _ _ _ _ _ c.requires.sides.2 c.args.place c.args.unifier.now.forest.now.end.now c.args.unifier.now.forest.now.laid.ends c.requires.inside in
    record { place = omega (arith, o.0); order = e.1; inside = o.0; rest = o.2 }

pub returns-in_err-inner : goal.returns-in_err-inner
returns-in_err-inner g c = λ a b s. rw c.from_residual-in_err-inner.ensures (too_long_inner _ _ _ _ _ a b s _ _ _ c.requires.inside c.requires.unified c.args.unifier.now.forest.now.end.now c.args.unifier.now.forest.now.laid.ends (c.in_err-inner.ensures c.requires.unified.μ c.requires.unified.solves))

pub appearances-variables-requires : goal.appearances-variables-requires
appearances-variables-requires g c =
    peak_low _ _ _ _ _ _ _ c.requires.sides.2 _ _ _ c.requires.inside c.requires.unified _ (c.as_slice.ensures ∙ c.in_ok-peak.ensures c.requires.unified.μ c.requires.unified.solves)

pub returns : goal.returns
returns g c = λ a b s.
    pair_written _ _ _ _ _ a b s _ _ _ c.requires.inside c.requires.unified c.args.unifier.now.forest.now.end.now _ _ _ _ _ (subst (λ xs. length xs ≤ 8) (sym c.as_slice-order.ensures) (few_codes c.appearances-variables.result)) c.args.unifier.now.forest.now.laid.ends
    (c.in_ok-peak.ensures c.requires.unified.μ c.requires.unified.solves)
    (c.in_ok-outer.ensures c.requires.unified.μ c.requires.unified.solves)
    (c.in_ok-inner.ensures c.requires.unified.μ c.requires.unified.solves)
    (c.as_slice-order.ensures ∙ c.appearances-variables.ensures ∙ ap (seen_among []) c.as_slice.ensures)
    c.renumbered.ensures c.renumbered-2.ensures c.renumbered-3.ensures
