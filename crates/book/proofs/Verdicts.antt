-- Each byte string has one verdict at most.
use Rattle.std.proofs.Common.{◌≡◌, ℕ, ◌+◌, ◌<◌, List, [], ◌∷◌, ◌++◌, length, drop, Some, None, Option, sym, refl, ap, ◌∙◌, subst, ap₂, inl, inr, append_assoc, append-nil, arith, length-append}
use Rattle.terms.specs.Question.{AllYes, FirstNo}
use Rattle.terms.proofs.Answers.{yes_or_no, one_number}
use Rattle.book.specs.Format.{BookField, field_bytes, book_bytes, value_length, field_at}
use Rattle.book.specs.Questions.{Whole, field_questions, questions, Good, Accepted, Refused}
use Rattle.book.specs.Theorems.{OneVerdict}
use Rattle.book.proofs.FieldBytes.{length_back, field_back, rest_back}

-- a field that has passed its questions is not refused
passed : (start : List BookField) (f : BookField) (more rest : List ℕ) (n : ℕ) → field_bytes f ++ more ≡ rest → AllYes (field_questions start f) → FirstNo (questions start rest) n → ⊥
passed start f more rest n e y (inl cut) =
    cut.0 (subst Whole e (omega (arith, length_back f more, length-append (field_bytes f) more)))
passed start f more rest n e y (inr later) =
    yes_or_no (field_questions start (field_at rest)) n (subst (λ g. AllYes (field_questions start g)) (sym (field_back f more) ∙ ap field_at e) y) later.1

-- fields that begin the same bytes are the same, and so are the bytes behind them
same_first : (f g : BookField) (xs ys : List ℕ) → field_bytes f ++ xs ≡ field_bytes g ++ ys → (f ≡ g) × (xs ≡ ys)
same_first f g xs ys e = (
  sym (field_back f xs) ∙ ap field_at e ∙ field_back g ys,
  sym (rest_back f xs) ∙ ap (λ w. drop (3 + value_length w) w) e ∙ rest_back g ys,
)

accepted_or_refused : (start fs before : List BookField) (rest : List ℕ) (n : ℕ) → Good start fs → book_bytes fs ≡ book_bytes before ++ rest → 0 < length rest → FirstNo (questions (start ++ before) rest) n → ⊥
accepted_or_refused start [] [] rest n g e more first = omega (arith, ap length e)
accepted_or_refused start (f ∷ fs) [] rest n g e more first =
    passed start f (book_bytes fs) rest n e g.0 (subst (λ w. FirstNo (questions w rest) n) (append-nil start) first)
accepted_or_refused start [] (h ∷ before) rest n g e more first =
    omega (arith, ap length e, length-append (field_bytes h ++ book_bytes before) rest, length-append (field_bytes h) (book_bytes before))
accepted_or_refused start (f ∷ fs) (h ∷ before) rest n g e more first =
    let same = same_first f h (book_bytes fs) (book_bytes before ++ rest) (e ∙ append_assoc (field_bytes h) (book_bytes before) rest) in
    accepted_or_refused (start ++ h ∷ []) fs before rest n
    (subst (λ k. Good (start ++ k ∷ []) fs) same.0 g.1)
    same.1
    more
    (subst (λ w. FirstNo (questions w rest) n) (sym (append_assoc start (h ∷ []) before)) first)

same_refusal : (start fs gs : List BookField) (xs ys : List ℕ) (m n : ℕ) → Good start fs → Good start gs → book_bytes fs ++ xs ≡ book_bytes gs ++ ys → FirstNo (questions (start ++ fs) xs) m → FirstNo (questions (start ++ gs) ys) n → (m ≡ n) × (fs ≡ gs)
same_refusal start [] [] xs ys m n g h e a b =
    (one_number (questions (start ++ []) ys) m n (subst (λ w. FirstNo (questions (start ++ []) w) m) e a) b, refl)
same_refusal start (f ∷ fs) [] xs ys m n g h e a b =
    absurd (passed start f (book_bytes fs ++ xs) ys n (sym (append_assoc (field_bytes f) (book_bytes fs) xs) ∙ e) g.0 (subst (λ w. FirstNo (questions w ys) n) (append-nil start) b))
same_refusal start [] (k ∷ gs) xs ys m n g h e a b =
    absurd (passed start k (book_bytes gs ++ ys) xs m (sym (append_assoc (field_bytes k) (book_bytes gs) ys) ∙ sym e) h.0 (subst (λ w. FirstNo (questions w xs) m) (append-nil start) a))
same_refusal start (f ∷ fs) (k ∷ gs) xs ys m n g h e a b =
    let same = same_first f k (book_bytes fs ++ xs) (book_bytes gs ++ ys) (sym (append_assoc (field_bytes f) (book_bytes fs) xs) ∙ e ∙ append_assoc (field_bytes k) (book_bytes gs) ys) in
    let r = same_refusal (start ++ k ∷ []) fs gs xs ys m n
    (subst (λ j. Good (start ++ j ∷ []) fs) same.0 g.1)
    h.1
    same.1
    (subst (λ w. FirstNo (questions w xs) m) (ap (λ j. start ++ (j ∷ fs)) same.0 ∙ sym (append_assoc start (k ∷ []) fs)) a)
    (subst (λ w. FirstNo (questions w ys) n) (sym (append_assoc start (k ∷ []) gs)) b) in
    (r.0, ap₂ ◌∷◌ same.0 r.1)

pub one_verdict : OneVerdict
one_verdict bs = (either, both)
  where
    either : (n : ℕ) (o : Option ℕ) → Accepted bs → Refused bs n o → ⊥
    either n None a r = omega (arith, a.short, r.1)
    either n (Some at) a r = accepted_or_refused [] a.contents r.before r.rest n a.good (a.form ∙ sym r.form) r.more r.first_no

    both : (m n : ℕ) (o p : Option ℕ) → Refused bs m o → Refused bs n p → (m ≡ n) × (o ≡ p)
    both m n None None a b = (a.0 ∙ sym b.0, refl)
    both m n None (Some at) a b = absurd (omega (arith, a.1, b.short))
    both m n (Some at) None a b = absurd (omega (arith, a.short, b.1))
    both m n (Some i) (Some j) a b =
        let r = same_refusal [] a.before b.before a.rest b.rest m n a.good b.good (a.form ∙ sym b.form) a.first_no b.first_no in
        (r.0, ap {B = Option ℕ} Some (a.offset ∙ ap (λ fs. length (book_bytes fs)) r.1 ∙ sym b.offset))
