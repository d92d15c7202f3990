use Rattle.std.proofs.Common.{ℕ, ◌≡◌, ◌≤◌, None, Option, List, Ok, Err, Result, length, sym, refl, subst₂, MatchResult}
use Rattle.std.proofs.lemmas.Result.{err_from_is_err_and}
use Rattle.std.specs.Option.{ok_or}
use Rattle.unification.specs.declared.critical.CriticalPair.{CriticalPair}
use Rattle.terms.specs.Term.{Term, Rule}
use Rattle.book.specs.Meaning.{rules_of}
use Rattle.judge.specs.declared.triple.Triple.{Triple}
use Rattle.judge.specs.declared.fault.ShowFault.{ShowFault}
use Rattle.judge.specs.declared.fault.ShowFault.TheVariants as show
use Rattle.judge.specs.declared.progress.Progress.{Progress}
use Rattle.judge.specs.Overlaps.{Fits, ListFits}
use Rattle.judge.specs.Calls.{page_least, IsOut, joined, Shows, ListsFail, ShowRefused}
use Rattle.judge.specs.Showing.{OneEnd}
use Rattle.judge.proofs.judge.Judge.check_show.Goals as goal

pub check_joining-requires-clause-outer : goal.check_joining-requires-clause-outer
check_joining-requires-clause-outer c =
    let w = rw c.in_ok-pair.ensures.ok_part at c.pair_out.ensures in
    (w.outer, w.outer_reads)

pub check_joining-requires-clause-inner : goal.check_joining-requires-clause-inner
check_joining-requires-clause-inner c =
    let w = rw c.in_ok-pair.ensures.ok_part at c.pair_out.ensures in
    (w.inner, w.inner_reads)

answered : {A : Type 0} (rs : List Rule) (s : Progress) (t : Triple) (os is : List ℕ) (page : ℕ) → page_least ≤ page → IsOut s t → ListFits os → ListFits is → (peak outer inner : Term) → Fits rs t peak outer inner → (r : Result A ShowFault)
    → MatchResult r (λ _. OneEnd rs os is outer inner) (λ e. ListsFail rs os is outer inner e) → MatchResult r (λ _. Shows rs s t os is page (joined s)) (λ e. ShowRefused rs s t os is page e)
answered rs s t os is page long out one two peak outer inner fits (Ok a) ends = record {
  page_suffices = long;
  is_out = out;
  outer_fits = one;
  inner_fits = two;
  peak = peak;
  outer = outer;
  inner = inner;
  sides = fits;
  end = ends.0;
  outer_leads = ends.1;
  inner_leads = ends.2;
  becomes = refl;
}
answered rs s t os is page long out one two peak outer inner fits (Err show.ShortPage) f = absurd f
answered rs s t os is page long out one two peak outer inner fits (Err show.OtherTicket) f = absurd f
answered rs s t os is page long out one two peak outer inner fits (Err show.BadLists) f = absurd f
answered rs s t os is page long out one two peak outer inner fits (Err (show.NoMatch a n)) f = record { page_suffices = long; is_out = out; lists_fit = (one, two); peak = peak; outer = outer; inner = inner; sides = fits; fail = f }
answered rs s t os is page long out one two peak outer inner fits (Err (show.TooLong a n)) f = record { page_suffices = long; is_out = out; lists_fit = (one, two); peak = peak; outer = outer; inner = inner; sides = fits; fail = f }
answered rs s t os is page long out one two peak outer inner fits (Err show.EndsDiffer) f = record { page_suffices = long; is_out = out; lists_fit = (one, two); peak = peak; outer = outer; inner = inner; sides = fits; fail = f }

other_ticket : (o : Option CriticalPair) (e : ShowFault) → o ≡ None → ◌≡◌ {A = Result CriticalPair ShowFault} (Err e) (ok_or o show.OtherTicket) → e ≡ show.OtherTicket
other_ticket o e none value = cc

pub returns-in_err-pair : goal.returns-in_err-pair
returns-in_err-pair c =
    let h = c.in_err-pair.ensures in
    let long : page_least ≤ length c.args.page.now = c.first_chunk_mut.ensures.variant.0 (sym c.in_ok-page.ensures.variant) in
    let p = err_from_is_err_and c.from_residual-in_err-pair.result c.from_residual-in_err-pair.ensures.1 in
    let other : c.in_err-pair.field-0.0 ≡ show.OtherTicket = other_ticket c.pair_out.result c.in_err-pair.field-0.0 h.ok_part h.value in
    rw (p.1, p.2, other)
    (long, rw h.ok_part at c.pair_out.ensures)

pub returns : goal.returns
returns c =
    let j = c.args.self.now in
    let rs = rules_of j.book.tables.bytes.now in
    let t = c.args.ticket.now.triple in
    let os = c.args.outer_list.now in
    let is = c.args.inner_list.now in
    let w = rw c.in_ok-pair.ensures.ok_part at c.pair_out.ensures in
    let told = rw c.in_ok-joining.ensures.ok_part at c.told.ensures in
    let long : page_least ≤ length c.args.page.now = c.first_chunk_mut.ensures.variant.0 (sym c.in_ok-page.ensures.variant) in
    answered rs j.progress t os is (length c.args.page.now) long w.is_out told.0.fits told.1.fits w.peak w.outer w.inner w.fits c.check_joining.result
    (subst₂ (λ os is. MatchResult c.check_joining.result (λ _. OneEnd rs os is w.outer w.inner) (λ e. ListsFail rs os is w.outer w.inner e)) told.0.joined told.1.joined
    (c.check_joining.ensures w.outer w.inner w.outer_reads w.inner_reads))
