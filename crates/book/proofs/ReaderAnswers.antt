-- What a reader gave, once it is known which case came.
use Rattle.std.proofs.Common.{◌≡◌, ℕ, List, Some, None, Ok, Err, Option, Result, sym, ◌∙◌, subst, arith, MatchOption}
use Rattle.std.specs.Result.{result_ok}
use Rattle.std.proofs.lemmas.Option.{MatchOption-at_some, MatchOption-at_none}
use Rattle.book.specs.declared.fault.Fault.{Fault}
use Rattle.book.specs.declared.field.Field.{Field}
use Rattle.book.specs.Questions.{FieldRead, AtEnd, NotRead}
use Rattle.book.specs.Views.{meant, ReaderGives}

module _ (bs read : List ℕ) (same : read ≡ bs) (at then : ℕ) (o : Option Field) (answer : MatchOption o (AtEnd read at then) (λ f. FieldRead read at f.offset (meant f) then)) where
  pub field_came : (f : Field) → o ≡ Some f → FieldRead bs at f.offset (meant f) then
  field_came f e = subst (λ w. FieldRead w at f.offset (meant f) then) same (MatchOption-at_some (AtEnd read at then) (λ g. FieldRead read at g.offset (meant g) then) f e answer)

  pub end_came : o ≡ None → AtEnd bs at then
  end_came e = subst (λ w. AtEnd w at then) same (MatchOption-at_none (AtEnd read at then) (λ g. FieldRead read at g.offset (meant g) then) e answer)

-- the same where the answer was read by `ok`
module _ (bs read : List ℕ) (same : read ≡ bs) (at then : ℕ) (r : Result (Option Field) Fault) (given : ReaderGives read at r then) (o : Option (Option Field)) (read_by : o ≡ result_ok r) where
  here : ReaderGives bs at r then
  here = subst (λ w. ReaderGives w at r then) same given

  pub ok_field : (p : Option Field) (f : Field) → o ≡ Some p → p ≡ Some f → FieldRead bs at f.offset (meant f) then
  ok_field p f e g = by r here (sym read_by ∙ e)
    where
      by : (r : Result (Option Field) Fault) → ReaderGives bs at r then → result_ok r ≡ Some p → FieldRead bs at f.offset (meant f) then
      by (Ok (Some h)) told is = let field : h ≡ f = cc in subst (λ f. FieldRead bs at f.offset (meant f) then) field told
      by (Ok None) told is = let z : ◌≡◌ {A = ℕ} 0 1 = cc in absurd (omega arith)
      by (Err e) told is = let z : ◌≡◌ {A = ℕ} 0 1 = cc in absurd (omega arith)

  pub ok_end : (p : Option Field) → o ≡ Some p → p ≡ None → AtEnd bs at then
  ok_end p e g = by r here (sym read_by ∙ e)
    where
      by : (r : Result (Option Field) Fault) → ReaderGives bs at r then → result_ok r ≡ Some p → AtEnd bs at then
      by (Ok (Some h)) told is = let z : ◌≡◌ {A = ℕ} 0 1 = cc in absurd (omega arith)
      by (Ok None) told is = told
      by (Err e) told is = let z : ◌≡◌ {A = ℕ} 0 1 = cc in absurd (omega arith)

  pub ok_cut : o ≡ None → (e : Fault) × NotRead bs at e then
  ok_cut e = by r here (sym read_by ∙ e)
    where
      by : (r : Result (Option Field) Fault) → ReaderGives bs at r then → result_ok r ≡ None → (e : Fault) × NotRead bs at e then
      by (Ok p) told is = let z : ◌≡◌ {A = ℕ} 0 1 = cc in absurd (omega arith)
      by (Err e) told is = (e, told)
