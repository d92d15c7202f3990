-- The small examples of books.
use Rattle.std.proofs.Common.{[], ◌∷◌, Some, None, refl, inl, inr, arith, lit<, lit≤}
use Rattle.terms.specs.Term.{var, node, nil, cons}
use Rattle.terms.specs.Prefix.{IsTerm}
use Rattle.terms.proofs.Scans.{first_is}
use Rattle.terms.proofs.Parts.{no_term_from_first}
use Rattle.book.specs.Format.{book_bytes}
use Rattle.book.specs.Meaning.{signature}
use Rattle.book.specs.Questions.{Accepted, Refused, IsSide}
use Rattle.book.specs.Theorems.{DefinitionsHoldAndFail, sample_book, early_rule}
use Rattle.book.proofs.Verdicts.{one_verdict}

good_sample : Accepted (book_bytes sample_book)
good_sample = record {
  short = lit≤ tt;
  contents = sample_book;
  form = refl;
  good = (
    (refl, ((lit≤ tt, lit≤ tt, refl), ((λ t. record { least = lit≤ tt; most = lit< tt; new = refl; few = lit≤ tt }), ((λ t. absurd (omega arith)), ((λ t. absurd (omega arith)), tt))))),
    (
      (refl, ((lit≤ tt, lit≤ tt, refl), ((λ t. record { least = lit≤ tt; most = lit< tt; new = refl; few = lit≤ tt }), ((λ t. absurd (omega arith)), ((λ t. absurd (omega arith)), tt))))),
      (
        (refl, ((lit≤ tt, lit≤ tt, refl), ((λ t. absurd (omega arith)), ((λ t. sides), ((λ t. lit< tt), tt))))),
        tt,
      ),
    ),
  );
}
  where
    sides : IsSide (signature (record { tag = 1; value = 1 ∷ (0 ∷ []) } ∷ (record { tag = 1; value = 2 ∷ (1 ∷ []) } ∷ []))) (2 ∷ (2 ∷ (128 ∷ []))) × IsSide (signature (record { tag = 1; value = 1 ∷ (0 ∷ []) } ∷ (record { tag = 1; value = 2 ∷ (1 ∷ []) } ∷ []))) (2 ∷ (128 ∷ []))
    sides = (
      record { some = lit≤ tt; most = lit≤ tt; term = (node 2 (cons (node 2 (cons (var 128) nil)) nil), record { sorted = (lit< tt, refl, ((lit< tt, refl, ((lit≤ tt, lit< tt), tt)), tt)); form = refl }) },
      record { some = lit≤ tt; most = lit≤ tt; term = (node 2 (cons (var 128) nil), record { sorted = (lit< tt, refl, ((lit≤ tt, lit< tt), tt)); form = refl }) },
    )

refused_early : Refused (book_bytes early_rule) 6 (Some 0)
refused_early = record {
  short = lit≤ tt;
  before = [];
  rest = book_bytes early_rule;
  form = refl;
  good = tt;
  more = lit< tt;
  offset = refl;
  first_no = inr (lit≤ tt, inr (refl, inr ((lit≤ tt, lit≤ tt, refl), inr ((λ t. absurd (omega arith)), inl ((λ asked. no_side (asked refl).0.term), refl)))));
}
  where
    no_side : IsTerm (signature []) 4 (2 ∷ (2 ∷ (128 ∷ []))) → ⊥
    no_side p = no_term_from_first (signature []) 4 (2 ∷ (2 ∷ (128 ∷ []))) (first_is (signature []) 4 (2 ∷ (2 ∷ (128 ∷ []))) None refl) p

pub definitions_hold_and_fail : DefinitionsHoldAndFail
definitions_hold_and_fail = record {
  bytes = refl;
  good = good_sample;
  declared = refl;
  undeclared = refl;
  rules = refl;
  symbol_offsets = refl;
  empty = record { short = lit≤ tt; contents = []; form = refl; good = tt };
  refused = refused_early;
  not_accepted = λ a. (one_verdict (book_bytes early_rule)).0 6 (Some 0) a refused_early;
}
