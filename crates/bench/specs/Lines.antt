-- The lines that the program prints.
use Rattle.std.specs.Prelude.{◌≡◌, ℕ, zero, suc, ◌+◌, ◌/◌, ◌%◌, ◌⊎◌, List, [], ◌∷◌, ◌++◌, length, codes, Option, Result, Ok, Err}
use Rattle.std.specs.Option.{unwrap_or}
use Rattle.book.specs.declared.fault.Fault.{Fault}
use Rattle.book.specs.Faults.{number_of, offset_of}
use Rattle.book.specs.Meaning.{fields_of, rules_of}
use Rattle.book.specs.Questions.{Accepted, Refused}
use Rattle.bench.specs.declared.verdict.Verdict.{Verdict}
use Rattle.bench.specs.declared.verdict.Verdict.TheVariants.{Read, Oriented}
use Rattle.bench.specs.declared.refusal.Refusal.{Refusal}

-- the last k decimal digits of n, as text
abbrev pub digits : ℕ → ℕ → List ℕ
digits zero n = []
digits (suc k) n = digits k (n / 10) ++ (48 + n % 10) ∷ []

-- `refused`, the number in 2 digits and the offset in 5
abbrev pub refused_line : ℕ → ℕ → List ℕ
refused_line number offset = codes "refused " ++ (digits 2 number ++ (codes " " ++ digits 5 offset))

-- `read`, the number of symbols and the number of rules, in 5 digits each
abbrev pub read_line : ℕ → ℕ → List ℕ
read_line symbols rules = codes "read " ++ (digits 5 symbols ++ (codes " " ++ digits 5 rules))

-- `oriented`, and the number of rules in 5 digits
abbrev pub oriented_line : ℕ → List ℕ
oriented_line rules = codes "oriented " ++ digits 5 rules

-- the line that says a verdict
abbrev pub verdict_line : Verdict → List ℕ
verdict_line (Read symbols rules) = read_line symbols rules
verdict_line (Oriented rules) = oriented_line rules

-- the line that says a refusal
abbrev pub refusal_line : Refusal → List ℕ
refusal_line r = refused_line r.number r.place

-- the line for what is said
abbrev pub line_of : Result Verdict Refusal → List ℕ
line_of (Ok v) = verdict_line v
line_of (Err r) = refusal_line r

-- why bytes are no book: the question that says no, and the offset, 0 where the fault carries none
abbrev pub not_read : Fault → Refusal
not_read e = record { number = number_of e; place = unwrap_or (offset_of e) 0 }

-- the line for a book's bytes: they are a book; or they are refused, and the offset is 0 where the refusal carries none
abbrev pub VerdictLine : List ℕ → List ℕ → Type 0
VerdictLine bs line =
    (Accepted bs × (line ≡ read_line (length (fields_of bs 1)) (length (rules_of bs))))
    ⊎ ((n : ℕ) × (at : Option ℕ) × Refused bs n at × (line ≡ refused_line n (unwrap_or at 0)))
