use Rattle.std.proofs.Common.{◌≡◌, drop, sym, ◌∙◌, arith}
use Rattle.std.proofs.lemmas.List.{take_rest, length-take-le}
use Rattle.terms.proofs.Parts.{none_behind, none_there, found_there, first_within}
use Rattle.terms.proofs.prefix.part_at.Goals as goal

pub returns-in_err-rest-clause-any : goal.returns-in_err-rest-clause-any
returns-in_err-rest-clause-any g c =
    rw c.from_residual.ensures (none_behind (g.S.Signature.arities c.args.signature.now) c.args.variables c.args.bytes.now c.args.place (grind (arith, c.in_err-rest.ensures.lookup.0))).0

pub returns-in_err-n : goal.returns-in_err-n
returns-in_err-n g c =
    let behind : c.in_ok-rest.rest.now ≡ drop c.args.place c.args.bytes.now = c.in_ok-rest.ensures.lookup.0.2 ∙ take_rest c.args.bytes.now c.args.place in
    let r = none_there (g.S.Signature.arities c.args.signature.now) c.args.variables c.args.bytes.now c.args.place (rw (sym behind) c.in_err-n.ensures) in
    rw c.from_residual-in_err-n.ensures (record { any = r.0; part = r.1 })

pub slice_bounds-result-end : goal.slice_bounds-result-end
slice_bounds-result-end g c = sym (length-take-le c.in_ok-n.n c.in_ok-rest.rest.now (first_within _ _ c.in_ok-rest.rest.now c.in_ok-n.n c.in_ok-n.ensures))

pub returns : goal.returns
returns g c =
    let behind : c.in_ok-rest.rest.now ≡ drop c.args.place c.args.bytes.now = c.in_ok-rest.ensures.lookup.0.2 ∙ take_rest c.args.bytes.now c.args.place in
    let r = found_there (g.S.Signature.arities c.args.signature.now) c.args.variables c.args.bytes.now c.args.place c.in_ok-n.n (rw (sym behind) c.in_ok-n.ensures) in
    rw behind (record { any = r.0; part = r.1 })
