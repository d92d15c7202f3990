-- What the questions and a table of the places of ranks tell.
use Rattle.std.proofs.Common.{◌≡◌, ℕ, ◌+◌, Bool, true, false, cond, eqb, ◌⊎◌, List, [], ◌∷◌, ◌++◌, get_or, Some, sym, refl, ap, ◌∙◌, inl, inr, append_assoc}
use Rattle.terms.specs.Prefix.{Arities}
use Rattle.book.specs.Meaning.{code, Located, fields_of, signature_of}
use Rattle.book.specs.declared.places.Places.{Places}
use Rattle.book.proofs.Pairs.{Pair}
use Rattle.orders.specs.Figures.{AllFirst, Figured}
use Rattle.orders.specs.FieldQuestions.{AllPass, Answered, FiguresRefused, figure_place, FigurePlaces}
use Rattle.orders.specs.Ranks.{rank_by, rank_of, rank_questions, rank_at, rank_in}
use Rattle.orders.specs.PathFaults.{RanksRefused}

-- ── the questions of ranks in words ──

all_first : (sig : Arities) (before ls : List Located) → AllPass rank_questions sig before ls → AllFirst sig before ls
all_first sig before [] a = tt
all_first sig before (l ∷ ls) a = (a.0.0, all_first sig (before ++ l ∷ []) ls a.1)

pub ranks_answered : (bs : List ℕ) → Answered rank_questions bs 4 → Figured bs 4
ranks_answered bs a = record { all_first = all_first (signature_of bs) [] (fields_of bs 4) a.all_pass; all_have = a.all_have }

pub ranks_refused : (bs : List ℕ) (n at : ℕ) → FiguresRefused rank_questions bs 4 13 n at → RanksRefused bs n at
ranks_refused bs n at (inl f) = inl (
  number f.first_no,
  record {
    before = f.before;
    field = f.field;
    rest = f.rest;
    fields_are = f.fields_are;
    good = all_first (signature_of bs) [] f.before f.good;
    no = not_first f.first_no;
    offset = f.offset;
  },
)
  where
    number : {f : Type 0} → ((f → ⊥) × (n ≡ 12)) ⊎ (f × ⊥) → n ≡ 12
    number (inl q) = q.1
    number (inr q) = absurd q.1

    not_first : {f : Type 0} → ((f → ⊥) × (n ≡ 12)) ⊎ (f × ⊥) → f → ⊥
    not_first (inl q) = q.0
    not_first (inr q) = λ h. q.1
ranks_refused bs n at (inr (e, a, m)) = inr (
  e,
  record {
    all_first = all_first (signature_of bs) [] (fields_of bs 4) a;
    before = m.before;
    field = m.field;
    rest = m.rest;
    symbols_are = m.symbols_are;
    good = m.good;
    no = m.no;
    offset = m.offset;
  },
)

-- ── the rank at a place ──

rank_of_place : (bs : List ℕ) (c : ℕ) (pre ls full : List Located) → full ≡ pre ++ ls → ((before rest : List Located) (l : Located) → full ≡ before ++ l ∷ rest → Pair bs l) → rank_at bs (figure_place ls c) ≡ rank_by ls c
rank_of_place bs c pre [] full e p = refl
rank_of_place bs c pre (l ∷ ls) full e p =
    by (eqb (code l.field) c) (rank_of_place bs c (pre ++ l ∷ []) ls full (e ∙ sym (append_assoc pre (l ∷ []) ls)) p)
  where
    by : (b : Bool) → rank_at bs (figure_place ls c) ≡ rank_by ls c → rank_at bs (cond b (Some (l.offset + 4)) (figure_place ls c)) ≡ cond b (get_or l.field.value 1 0) (rank_by ls c)
    by true h = (p pre ls l e).second
    by false h = h

pub table_tells : (bs : List ℕ) (places : Places) → FigurePlaces places (fields_of bs 4) → ((before rest : List Located) (l : Located) → fields_of bs 4 ≡ before ++ l ∷ rest → Pair bs l) → (c : ℕ) → rank_in bs places c ≡ rank_of bs c
table_tells bs places p pairs c = ap (rank_at bs) (p c) ∙ rank_of_place bs c [] (fields_of bs 4) (fields_of bs 4) refl pairs
