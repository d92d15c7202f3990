-- The tags of fields.
use Rattle.std.specs.Prelude.{ℕ}
use Rattle.book.specs.declared.shape.Tag.{Tag}
use Rattle.book.specs.declared.shape.Tag.TheVariants.{Symbol, Rule, Polynomial, Rank, Joining}

-- the byte that each tag is
abbrev pub tag_number : Tag → ℕ
tag_number Symbol = 1
tag_number Rule = 2
tag_number Polynomial = 3
tag_number Rank = 4
tag_number Joining = 5
