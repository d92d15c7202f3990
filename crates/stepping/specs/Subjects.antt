-- The term that rules are tried on, and where a rule matches it.
use Rattle.std.specs.Prelude.{◌≡◌, ℕ, ◌<◌, List, length}
use Rattle.terms.specs.Term.{Term, Rule, rule_at}
use Rattle.terms.specs.Prefix.{Arities, Reads, term_of}
use Rattle.terms.specs.Place.{part}
use Rattle.book.specs.Meaning.{signature_of, rules_of}
use Rattle.stepping.specs.declared.subject.Subject.{Subject}
use Rattle.stepping.specs.declared.subject.RuleMatch.{RuleMatch}
use Rattle.stepping.specs.Bindings.{Matched}

-- the signature of a subject's book, its rules, and the term
abbrev pub signature_on : Subject → Arities
signature_on s = signature_of s.book.now.tables.bytes.now

abbrev pub rules_on : Subject → List Rule
rules_on s = rules_of s.book.now.tables.bytes.now

abbrev pub term_on : Subject → Term
term_on s = term_of (signature_on s) s.term.now

-- a subject of the book with these bytes, of this many variables, with the bytes of the term
pub record IsSubject (book : List ℕ) (variables : ℕ) (term : List ℕ) (s : Subject) : Type 0 where
  pub book_is : s.book.now.tables.bytes.now ≡ book
  pub variables_is : s.variables ≡ variables
  pub term_is : s.term.now ≡ term

-- the rule k matches the subject's part at the place p, by these bindings, and has this right side
pub record RuleMatches (s : Subject) (k p : ℕ) (m : RuleMatch) : Type 0 where
  pub is_rule : k < length (rules_on s)
  pub inside : p < length s.term.now
  pub matched : Matched (signature_on s) s.variables (rule_at (rules_on s) k).left (part (term_on s) p) m.found.substitution.parts m.found.len
  pub right_reads : Reads (signature_on s) 4 m.right.now (rule_at (rules_on s) k).right
