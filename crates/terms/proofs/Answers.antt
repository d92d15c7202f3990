-- Questions asked in sequence have one outcome at most.
use Rattle.std.proofs.Common.{◌≡◌, ℕ, List, [], ◌∷◌, sym, ◌∙◌, inl, inr}
use Rattle.terms.specs.Question.{Question, AllYes, FirstNo}

pub yes_or_no : (qs : List Question) (n : ℕ) → AllYes qs → FirstNo qs n → ⊥
yes_or_no [] n y f = f
yes_or_no (q ∷ qs) n y (inl f) = f.0 y.0
yes_or_no (q ∷ qs) n y (inr f) = yes_or_no qs n y.1 f.1

pub one_number : (qs : List Question) (m n : ℕ) → FirstNo qs m → FirstNo qs n → m ≡ n
one_number [] m n a b = absurd a
one_number (q ∷ qs) m n (inl a) (inl b) = a.1 ∙ sym b.1
one_number (q ∷ qs) m n (inl a) (inr b) = absurd (a.0 b.0)
one_number (q ∷ qs) m n (inr a) (inl b) = absurd (b.0 a.0)
one_number (q ∷ qs) m n (inr a) (inr b) = one_number qs m n a.1 b.1
