-- The line that is to be printed of the bytes of a book, judged by its order.
use Rattle.std.specs.Prelude.{◌≡◌, ℕ, ◌⊎◌, List, [], length, Option, ◌≢◌}
use Rattle.std.specs.Option.{unwrap_or}
use Rattle.terms.specs.Prefix.{Arities}
use Rattle.book.specs.Meaning.{signature_of, fields_of, rules_of}
use Rattle.book.specs.Questions.{Accepted, Refused}
use Rattle.order_theory.specs.Grade.{path_grade, polynomial_grade}
use Rattle.orders.specs.Figures.{Figured}
use Rattle.orders.specs.Ranks.{rank_of}
use Rattle.orders.specs.FieldQuestions.{Answered}
use Rattle.orders.specs.PathFaults.{RanksRefused}
use Rattle.orders.specs.Polynomials.{interpretation_of, polynomial_questions}
use Rattle.orders.specs.PolynomialFaults.{PolynomialsRefused}
use Rattle.judge.specs.declared.orient_fault.OrientFault.{OrientFault}
use Rattle.judge.specs.declared.orient_fault.OrientFault.TheVariants.{OtherSignature, NotOver}
use Rattle.judge.specs.Orient.{Falls, number_of, OrientRefused}
use Rattle.bench.specs.declared.refusal.Refusal.{Refusal}
use Rattle.bench.specs.Lines.{oriented_line, refused_line}

-- ── which line ──

-- what is printed of a fault behind its number: the rule, or 0 where it carries none
abbrev pub rule_in : OrientFault → ℕ
rule_in OtherSignature = 0
rule_in (NotOver rule kind grade) = rule

-- why a book is not oriented
abbrev pub not_oriented : OrientFault → Refusal
not_oriented e = record { number = number_of e; place = rule_in e }

-- the line for a book and an order with a signature, a grade and a kind
abbrev pub OrientLine : List ℕ → Arities → (List ℕ → List ℕ → ℕ) → ℕ → List ℕ → Type 0
OrientLine bs order grade kind line =
    (Falls order grade (signature_of bs) (rules_of bs) × (line ≡ oriented_line (length (rules_of bs))))
    ⊎ ((e : OrientFault) × OrientRefused order grade kind (signature_of bs) (rules_of bs) e × (line ≡ refused_line (number_of e) (rule_in e)))

-- the line for a book whose fields are to give an order: they are accepted, and the order has a grade by the book and a kind; or they are refused
abbrev pub FiguredLine : (List ℕ → Type 0) → (List ℕ → ℕ → ℕ → Type 0) → (List ℕ → List ℕ → List ℕ → ℕ) → ℕ → List ℕ → List ℕ → Type 0
FiguredLine accepted refused grade kind bs line =
    (accepted bs × OrientLine bs (signature_of bs) (grade bs) kind line)
    ⊎ ((n at : ℕ) × refused bs n at × (line ≡ refused_line n at))

-- by the book's polynomials
abbrev pub PolynomialLine : List ℕ → List ℕ → Type 0
PolynomialLine =
    FiguredLine (λ bs. Answered polynomial_questions bs 3) PolynomialsRefused (λ bs. polynomial_grade (signature_of bs) (interpretation_of bs)) 1

-- by the book's ranks
abbrev pub PathLine : List ℕ → List ℕ → Type 0
PathLine = FiguredLine (λ bs. Figured bs 4) RanksRefused (λ bs. path_grade (signature_of bs) (rank_of bs)) 2

-- the line for a book: its order is the polynomial order if it has a polynomial, else the path order
abbrev pub BookLine : List ℕ → List ℕ → Type 0
BookLine bs line = ((fields_of bs 3 ≢ []) × PolynomialLine bs line) ⊎ ((fields_of bs 3 ≡ []) × PathLine bs line)

-- the line for any bytes: they are a book; or they are refused, and the offset is 0 where the refusal carries none
abbrev pub JudgedLine : List ℕ → List ℕ → Type 0
JudgedLine bs line =
    (Accepted bs × BookLine bs line)
    ⊎ ((n : ℕ) × (at : Option ℕ) × Refused bs n at × (line ≡ refused_line n (unwrap_or at 0)))
