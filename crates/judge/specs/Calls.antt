-- What a judge's calls do: when each is accepted, what it says otherwise, and what becomes of the judge. `rs` are the rules of its book.
use Rattle.std.specs.Prelude.{◌≡◌, ℕ, ◌+◌, ◌*◌, ◌<◌, ◌≤◌, List, length, take, Some, None, Option, IsSome, IsNone, slice_index}
use Rattle.std.specs.Option.{option_or}
use Rattle.terms.specs.Term.{Term, Rule, size}
use Rattle.terms.specs.Place.{part}
use Rattle.rewriting.specs.Rewrite.{Matches, StepAt}
use Rattle.judge.specs.declared.triple.Triple.{Triple}
use Rattle.judge.specs.declared.progress.Progress.{Progress}
use Rattle.judge.specs.declared.progress.Stage.{Stage}
use Rattle.judge.specs.declared.progress.Stage.TheVariants.{Opened, Shown}
use Rattle.judge.specs.declared.fault.NextFault.{NextFault}
use Rattle.judge.specs.declared.fault.NextFault.TheVariants as next
use Rattle.judge.specs.declared.fault.Side.{Side}
use Rattle.judge.specs.declared.fault.Side.TheVariants.{Outer, Inner}
use Rattle.judge.specs.declared.fault.ShowFault.{ShowFault}
use Rattle.judge.specs.declared.fault.ShowFault.TheVariants as show
use Rattle.judge.specs.declared.fault.SettleFault.{SettleFault}
use Rattle.judge.specs.declared.fault.SettleFault.TheVariants as settle
use Rattle.judge.specs.declared.fault.SealFault.{SealFault}
use Rattle.judge.specs.declared.fault.SealFault.TheVariants as seal
use Rattle.judge.specs.Overlaps.{NextOverlap, NoneLeft, OverlapFits, Fits, most_symbols, Leads, ListFits}

-- a judge at its beginning
abbrev pub start : Progress
start = record { last = None; ticket = None; unjoined = None }

-- the ticket that is out names this triple
abbrev pub IsOut : Progress → Triple → Type 0
IsOut s t = IsSome s.ticket × (s.last ≡ Some t)

-- ── next ──

abbrev pub opened : Progress → Triple → Progress
opened s t = record s { last = Some t; ticket = Some Opened }

-- the next overlap is opened, and its ticket is out
pub record Opens (rs : List Rule) (s : Progress) (t : Triple) (after : Progress) : Type 0 where
  pub no_ticket_out : IsNone s.ticket
  pub is_next : NextOverlap rs s.last t
  pub fits : OverlapFits rs t
  pub becomes : after ≡ opened s t

abbrev pub NextRefused : List Rule → Progress → NextFault → Type 0
NextRefused rs s next.TicketOut = IsSome s.ticket
NextRefused rs s next.NoneLeft = IsNone s.ticket × NoneLeft rs s.last
NextRefused rs s (next.TooLong t) = IsNone s.ticket × NextOverlap rs s.last t × (OverlapFits rs t → ⊥)

-- ── show ──

-- the shortest page
abbrev pub page_least : ℕ
page_least = 1024

abbrev pub joined : Progress → Progress
joined s = record s { ticket = Some Shown }

-- the two lists of steps lead from the sides of the overlap that is out to one term
pub record Shows (rs : List Rule) (s : Progress) (t : Triple) (outer_list inner_list : List ℕ) (page : ℕ) (after : Progress) : Type 0 where
  pub page_suffices : page_least ≤ page
  pub is_out : IsOut s t
  pub outer_fits : ListFits outer_list
  pub inner_fits : ListFits inner_list
  pub peak : Term
  pub outer : Term
  pub inner : Term
  pub sides : Fits rs t peak outer inner
  pub end : Term
  pub outer_leads : Leads rs outer_list outer end
  pub inner_leads : Leads rs inner_list inner end
  pub becomes : after ≡ joined s

-- the rule k matches t at the place p
abbrev pub MatchesAt : List Rule → ℕ → ℕ → Term → Type 0
MatchesAt rs k p t = (p < size t) × Matches rs k (part t p)

-- the first n steps of a list lead from t to u, and at u the next one fails: its rule does not match, or its result is beyond the limit
pub record NoMatchAt (rs : List Rule) (steps : List ℕ) (n : ℕ) (t : Term) : Type 0 where
  pub told : 2 * n + 1 < length steps
  pub reached : Term
  pub leads : Leads rs (take (2 * n) steps) t reached
  pub fails : MatchesAt rs (slice_index steps (2 * n)) (slice_index steps (2 * n + 1)) reached → ⊥

pub record TooLongAt (rs : List Rule) (steps : List ℕ) (n : ℕ) (t : Term) : Type 0 where
  pub told : 2 * n + 1 < length steps
  pub reached : Term
  pub leads : Leads rs (take (2 * n) steps) t reached
  pub result : Term
  pub step : StepAt rs (slice_index steps (2 * n)) (slice_index steps (2 * n + 1)) reached result
  pub long : most_symbols < size result

-- the two lists lead to two terms
pub record EndsApart (rs : List Rule) (outer_list inner_list : List ℕ) (outer inner : Term) : Type 0 where
  pub outer_end : Term
  pub inner_end : Term
  pub outer_leads : Leads rs outer_list outer outer_end
  pub inner_leads : Leads rs inner_list inner inner_end
  pub apart : outer_end ≡ inner_end → ⊥

-- at the step n of a side's list; the inner list is looked at only if the outer one leads somewhere
abbrev pub SideFails : (List ℕ → ℕ → Term → Type 0) → List Rule → List ℕ → List ℕ → Term → Term → Side → ℕ → Type 0
SideFails FailsAt rs os is outer inner Outer n = FailsAt os n outer
SideFails FailsAt rs os is outer inner Inner n = ((end : Term) × Leads rs os outer end) × FailsAt is n inner

-- what is said of the lists of an overlap with these sides
abbrev pub ListsFail : List Rule → List ℕ → List ℕ → Term → Term → ShowFault → Type 0
ListsFail rs os is outer inner show.ShortPage = ⊥
ListsFail rs os is outer inner show.OtherTicket = ⊥
ListsFail rs os is outer inner show.BadLists = ⊥
ListsFail rs os is outer inner (show.NoMatch side n) = SideFails (NoMatchAt rs) rs os is outer inner side n
ListsFail rs os is outer inner (show.TooLong side n) = SideFails (TooLongAt rs) rs os is outer inner side n
ListsFail rs os is outer inner show.EndsDiffer = EndsApart rs os is outer inner

-- the steps of the overlap's lists fail
pub record StepsFail (rs : List Rule) (s : Progress) (t : Triple) (os is : List ℕ) (page : ℕ) (e : ShowFault) : Type 0 where
  pub page_suffices : page_least ≤ page
  pub is_out : IsOut s t
  pub lists_fit : ListFits os × ListFits is
  pub peak : Term
  pub outer : Term
  pub inner : Term
  pub sides : Fits rs t peak outer inner
  pub fail : ListsFail rs os is outer inner e

abbrev pub ShowRefused : List Rule → Progress → Triple → List ℕ → List ℕ → ℕ → ShowFault → Type 0
ShowRefused rs s t os is page show.ShortPage = page < page_least
ShowRefused rs s t os is page show.OtherTicket = (page_least ≤ page) × (IsOut s t → ⊥)
ShowRefused rs s t os is page show.BadLists = (page_least ≤ page) × IsOut s t × (ListFits os × ListFits is → ⊥)
ShowRefused rs s t os is page (show.NoMatch side n) = StepsFail rs s t os is page (show.NoMatch side n)
ShowRefused rs s t os is page (show.TooLong side n) = StepsFail rs s t os is page (show.TooLong side n)
ShowRefused rs s t os is page show.EndsDiffer = StepsFail rs s t os is page show.EndsDiffer

-- ── settle ──

-- the first of the overlaps left open, where t is settled: it is left open too unless it was shown
abbrev pub first_left : Option Stage → Option Triple → Triple → Option Triple
first_left (Some Shown) first t = first
first_left (Some Opened) first t = option_or first (Some t)
first_left None first t = option_or first (Some t)

abbrev pub settled : Progress → Triple → Progress
settled s t = record s { ticket = None; unjoined = first_left s.ticket s.unjoined t }

-- the overlap that is out is settled: joined if it was shown, else left open
pub record Settles (s : Progress) (t : Triple) (after : Progress) : Type 0 where
  pub is_out : IsOut s t
  pub becomes : after ≡ settled s t

abbrev pub SettleRefused : Progress → Triple → SettleFault → Type 0
SettleRefused s t settle.OtherTicket = IsOut s t → ⊥

-- ── seal ──

-- every overlap is opened, settled and joined
pub record Seals (rs : List Rule) (s : Progress) : Type 0 where
  pub no_ticket_out : IsNone s.ticket
  pub all_opened : NoneLeft rs s.last
  pub all_joined : s.unjoined ≡ None

abbrev pub SealRefused : List Rule → Progress → SealFault → Type 0
SealRefused rs s seal.TicketOut = IsSome s.ticket
SealRefused rs s (seal.NotOpened t) = IsNone s.ticket × NextOverlap rs s.last t
SealRefused rs s (seal.LeftOpen t) = IsNone s.ticket × NoneLeft rs s.last × (s.unjoined ≡ Some t)
