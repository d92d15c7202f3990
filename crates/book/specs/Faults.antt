-- Why a book is refused: the number of the question that says no, and what the fault carries.
use Rattle.std.specs.Prelude.{ℕ, Some, None, Option}
use Rattle.book.specs.declared.fault.Fault.{Fault}
use Rattle.book.specs.declared.fault.Fault.TheVariants.{TooLong, NotWhole, UnknownTag, WrongLength, BadSymbol, BadRule, TooManyRules}

-- the number of each fault
abbrev pub number_of : Fault → ℕ
number_of TooLong = 1
number_of (NotWhole at) = 2
number_of (UnknownTag at) = 3
number_of (WrongLength at) = 4
number_of (BadSymbol at) = 5
number_of (BadRule at) = 6
number_of (TooManyRules at) = 7

-- the offset of the field that it carries, if any
abbrev pub offset_of : Fault → Option ℕ
offset_of TooLong = None
offset_of (NotWhole at) = Some at
offset_of (UnknownTag at) = Some at
offset_of (WrongLength at) = Some at
offset_of (BadSymbol at) = Some at
offset_of (BadRule at) = Some at
offset_of (TooManyRules at) = Some at
