-- The numbers of the faults of a judge's calls.
use Rattle.std.specs.Prelude.{ℕ}
use Rattle.judge.specs.declared.fault.NextFault.{NextFault}
use Rattle.judge.specs.declared.fault.NextFault.TheVariants as next
use Rattle.judge.specs.declared.fault.SidesFault.{SidesFault}
use Rattle.judge.specs.declared.fault.SidesFault.TheVariants as sides
use Rattle.judge.specs.declared.fault.Side.{Side}
use Rattle.judge.specs.declared.fault.Side.TheVariants.{Outer, Inner}
use Rattle.judge.specs.declared.fault.ShowFault.{ShowFault}
use Rattle.judge.specs.declared.fault.ShowFault.TheVariants as show
use Rattle.judge.specs.declared.fault.SettleFault.{SettleFault}
use Rattle.judge.specs.declared.fault.SettleFault.TheVariants as settle
use Rattle.judge.specs.declared.fault.SealFault.{SealFault}
use Rattle.judge.specs.declared.fault.SealFault.TheVariants as seal

abbrev pub next_number : NextFault → ℕ
next_number next.TicketOut = 16
next_number next.NoneLeft = 17
next_number (next.TooLong triple) = 18

abbrev pub sides_number : SidesFault → ℕ
sides_number sides.OtherTicket = 19
sides_number sides.ShortBuffer = 32

-- the number of a side
abbrev pub side_number : Side → ℕ
side_number Outer = 0
side_number Inner = 1

-- 21 and 22 carry the side and the step from 0
abbrev pub show_number : ShowFault → ℕ
show_number show.ShortPage = 31
show_number show.OtherTicket = 19
show_number show.BadLists = 20
show_number (show.NoMatch side step) = 21
show_number (show.TooLong side step) = 22
show_number show.EndsDiffer = 23

abbrev pub settle_number : SettleFault → ℕ
settle_number settle.OtherTicket = 19

-- 24 carries the next overlap, 25 the first that was left open
abbrev pub seal_number : SealFault → ℕ
seal_number seal.TicketOut = 16
seal_number (seal.NotOpened triple) = 24
seal_number (seal.LeftOpen triple) = 25
