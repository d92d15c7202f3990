-- Why a book gives no path order: the number of the question that says no, and the offset that the fault carries.
use Rattle.std.specs.Prelude.{◌≡◌, ℕ, ◌⊎◌, List}
use Rattle.orders.specs.declared.path_fault.PathFault.{PathFault}
use Rattle.orders.specs.declared.path_fault.PathFault.TheVariants.{BadRank, NoRank}
use Rattle.orders.specs.Figures.{NotFirst, Missing}

-- the number of each fault
abbrev pub number_of : PathFault → ℕ
number_of (BadRank at) = 12
number_of (NoRank at) = 13

-- the offset of the field that it carries: of the rank's field, or of the symbol's
abbrev pub offset_of : PathFault → ℕ
offset_of (BadRank at) = at
offset_of (NoRank at) = at

-- The first no to the ranks of a book has the number n and carries the offset `at`.
abbrev pub RanksRefused : List ℕ → ℕ → ℕ → Type 0
RanksRefused bs n at = ((n ≡ 12) × NotFirst bs 4 at) ⊎ ((n ≡ 13) × Missing bs 4 at)
