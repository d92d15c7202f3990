-- The laws of an order that grades byte strings by the terms that they are.
use Rattle.std.proofs.Common.{◌≡◌, ℕ, Bool, true, false, cond, ◌&&◌, T, List, sym, refl, ap, ◌∙◌, ap₂, arith}
use Rattle.std.proofs.lemmas.Bool.{false≢true}
use Rattle.terms.specs.Term.{Term}
use Rattle.terms.specs.Prefix.{Arities, WellSorted, Reads, term_of}
use Rattle.terms.proofs.Reading.{bytes_read_as_their_term}
use Rattle.rewriting.specs.Order.{ReductionOrder}
use Rattle.book.specs.Questions.{IsSide}
use Rattle.order_theory.specs.Grade.{is_side, grade_of_bytes}
use Rattle.order_theory.specs.Laws.{OrderLaws}
use Rattle.order_theory.proofs.Testing.{side_sound, side_complete, and_intro, and_parts}

pub to_true : (b : Bool) → T b → b ≡ true
to_true true h = refl
to_true false h = absurd h

pub from_true : (b : Bool) → b ≡ true → T b
from_true true e = tt
from_true false e = absurd (false≢true e)

module _ (sig : Arities) (grade : Term → Term → ℕ) where
  module _ (bs cs : List ℕ) where
    abbrev sides : Bool
    sides = is_side sig bs && is_side sig cs

    malformed : (IsSide sig bs × IsSide sig cs → ⊥) → grade_of_bytes sig grade bs cs ≡ 8
    malformed n = by sides refl
      where
        by : (b : Bool) → sides ≡ b → cond b (grade (term_of sig bs) (term_of sig cs)) 8 ≡ 8
        by true e = let p = and_parts (is_side sig bs) (is_side sig cs) (from_true sides e) in absurd (n (side_sound sig bs p.0, side_sound sig cs p.1))
        by false e = refl

    on_sides : IsSide sig bs → IsSide sig cs → grade_of_bytes sig grade bs cs ≡ grade (term_of sig bs) (term_of sig cs)
    on_sides a b = ap (λ v. cond v (grade (term_of sig bs) (term_of sig cs)) 8) (to_true sides (and_intro (is_side sig bs) (is_side sig cs) (side_complete sig bs a) (side_complete sig cs b)))

    -- the grade of the bytes of two terms
    pub grade_of_terms : (s t : Term) → IsSide sig bs → IsSide sig cs → Reads sig 4 bs s → Reads sig 4 cs t → grade_of_bytes sig grade bs cs ≡ grade s t
    grade_of_terms s t a b x y = on_sides a b ∙ ap₂ grade (bytes_read_as_their_term sig 4 bs s x) (bytes_read_as_their_term sig 4 cs t y)

    zero_of_terms : (s t : Term) → Reads sig 4 bs s → Reads sig 4 cs t → grade_of_bytes sig grade bs cs ≡ 0 → grade s t ≡ 0
    zero_of_terms s t x y e = by sides e
      where
        by : (b : Bool) → cond b (grade (term_of sig bs) (term_of sig cs)) 8 ≡ 0 → grade s t ≡ 0
        by true d = sym (ap₂ grade (bytes_read_as_their_term sig 4 bs s x) (bytes_read_as_their_term sig 4 cs t y)) ∙ d
        by false d = absurd (omega arith)

  -- A grade of terms that is never 8, and 0 only for terms in a reduction order, keeps the laws.
  pub bytes_keep_the_laws : (over : Term → Term → Type 0) → ((s t : Term) → grade s t ≡ 8 → ⊥) → ((s t : Term) → WellSorted sig 4 s → WellSorted sig 4 t → grade s t ≡ 0 → over s t) → ReductionOrder sig over
      → OrderLaws sig (grade_of_bytes sig grade) over
  bytes_keep_the_laws over eight zero reduces = record {
    malformed = malformed;
    well_formed = λ bs cs a b e. eight (term_of sig bs) (term_of sig cs) (sym (on_sides bs cs a b) ∙ e);
    graded_over = λ bs cs s t x y e. zero s t x.sorted y.sorted (zero_of_terms bs cs s t x y e);
    reduction = reduces;
  }
