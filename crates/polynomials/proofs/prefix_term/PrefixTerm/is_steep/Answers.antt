use Rattle.std.proofs.Common.{◌≡◌, ltb, refl, rules, tests, ◌∙◌}
use Rattle.std.specs.List.{list_any, range_with_len}
use Rattle.std.proofs.lemmas.Iterator.{YieldsList-from_range}
use Rattle.std.proofs.lemmas.Iterator.Search.{any_from_yields_List}
use Rattle.polynomials.specs.Polynomial.{Polynomial, degree}
use Rattle.polynomials.specs.Interpretation.{polynomial_of}
use Rattle.polynomials.proofs.GradeTests.{steep_any}
use Rattle.polynomials.proofs.prefix_term.PrefixTerm.is_steep.Goals as goal

pub returns : goal.returns
returns g c t reads =
    let p : Polynomial = polynomial_of (g.S.Symbols.interpretation c.args.self.now.symbols.now) t in
    let e : c.any.result ≡ list_any (λ i. ltb 3 (degree i p)) (range_with_len 0 4) =
    any_from_yields_List (λ i. ltb 3 (degree i p)) c.any.new.self _ _ c.any.ensures.ran (YieldsList-from_range 0 4 4 refl refl) (λ x b q k. search (rules, tests, reads)) in
    e ∙ steep_any p
