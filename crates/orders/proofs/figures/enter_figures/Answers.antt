use Rattle.std.proofs.Common.{◌<◌, is_some, get_or, sym, ap, ◌∙◌, inl, inr}
use Rattle.std.proofs.lemmas.Bool.Decides.{not_from_Decides}
use Rattle.std.proofs.lemmas.Bool.{false≢true, MatchBool-at_true, cases_lt}
use Rattle.book.specs.Queries.{located_as}
use Rattle.book.proofs.Pairs.{held_codes}
use Rattle.orders.proofs.FigurePlacing.{no_field, no_place, places_push}
use Rattle.orders.proofs.figures.enter_figures.Goals as goal

pub returns : goal.returns
returns c = λ before p.
    let b = c.args.book.now in
    let t = b.tables in
    let code = get_or c.args.field.now.value.now 0 0 in
    let free = c.enter.ensures.free in (
      (λ e.
          let f = free.0 e in
          let new = no_field before code (sym (p code) ∙ f.1) in (
            record { declared = λ n. false≢true (sym (ap is_some (c.arity.ensures ∙ n)) ∙ c.if-is_none.ensures); first = new },
            places_push c.args.places.now c.enter.new.self before (located_as c.args.field.now) new p
                (MatchBool-at_true _ _ e c.enter.ensures.entered),
          )),
      (λ e f.
          let small : code < 128 = elim (cases_lt code 128) [ inl l ↦ l | inr l ↦ absurd (f.declared (held_codes t b.holds code l)) ] in
          not_from_Decides c.enter.result free e (small, p code ∙ no_place before code f.first)),
    )
