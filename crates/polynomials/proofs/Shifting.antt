-- The shifted polynomial of a term from the tables of its arguments.
use Rattle.std.proofs.Common.{ℕ, suc, ◌<◌, ◌≤◌, List, [], ◌∷◌, get_or, sym, subst, inl, inr, arith}
use Rattle.std.proofs.lemmas.Bool.{cases_lt}
use Rattle.std.proofs.lemmas.List.{get_or_past}
use Rattle.terms.specs.Term.{Kind, Tree, var, node, nil, cons, Term, Terms, how_many}
use Rattle.terms.specs.Prefix.{Arities, WellSorted, behind, head_term}
use Rattle.polynomials.specs.Polynomial.{Polynomial, compose}
use Rattle.polynomials.specs.Interpretation.{Interpretation, Proper, Application, Throughout, interpret, shifted_variable, shifted}
use Rattle.polynomials.specs.Cells.{Holds, ComposeRoom, TermRoom}
use Rattle.polynomials.specs.Coding.{polynomial_from}
use Rattle.polynomials.specs.Tables.{cells_at, HoldThree, TablesOf}
use Rattle.polynomials.specs.declared.table.Table.{Table}
use Rattle.polynomials.proofs.Coded.{arity_small}
use Rattle.polynomials.proofs.Walks.{sorted_argument}
use Rattle.polynomials.proofs.Rooms.{polynomial_at, polynomials_length, argument_room, compose_room, compose_agree, parts_three}

-- a term for which there is room has room throughout
module _ (sig : Arities) (interpretation : Interpretation) (proper : Proper sig interpretation) where
  abbrev Roomy : {k : Kind} → Tree k → Type 0
  Roomy (var x) = TermRoom interpretation (var x)
  Roomy (node f ts) = TermRoom interpretation (node f ts)
  Roomy nil = Unit {0}
  Roomy (cons t ts) = (i : ℕ) → i < how_many (cons t ts) → TermRoom interpretation (head_term (behind i (cons t ts)))

  roomy_term : (t : Term) → TermRoom interpretation t → Roomy t
  roomy_term (var x) fits = fits
  roomy_term (node f ts) fits = fits

  roomy_terms : (ts : Terms) → ((i : ℕ) → i < how_many ts → TermRoom interpretation (head_term (behind i ts))) → Roomy ts
  roomy_terms nil fits = tt
  roomy_terms (cons t ts) fits = fits

  roomy_throughout : {k : Kind} (t : Tree k) → WellSorted sig 4 t → Roomy t → Throughout (TermRoom interpretation) t
  roomy_throughout (var x) w fits = fits
  roomy_throughout (node f ts) w fits = (fits, roomy_throughout ts w.2 (roomy_terms ts (λ i h. argument_room sig interpretation proper f ts w fits i h (sorted_argument sig 4 ts i h w.2))))
  roomy_throughout nil w fits = tt
  roomy_throughout (cons t ts) w fits = (roomy_throughout t w.0 (roomy_term t (fits 0 (omega arith))), roomy_throughout ts w.1 (roomy_terms ts (λ i h. fits (suc i) (omega arith))))

  pub room_throughout : (t : Term) → WellSorted sig 4 t → TermRoom interpretation t → Throughout (TermRoom interpretation) t
  room_throughout t w fits = roomy_throughout t w (roomy_term t fits)

-- all tables are there, and there is room for the symbol's polynomial
module _ (sig : Arities) (interpretation : Interpretation) (f : ℕ) (ts : Terms) (bs : List ℕ) (here : Application sig interpretation f ts (polynomial_from bs))
    (fits : TermRoom interpretation (node f ts)) where
  abbrev pub parts : List Polynomial
  parts = interpret interpretation shifted_variable ts

  few : how_many ts ≤ 3
  few = arity_small sig interpretation here.proper f (how_many ts) bs (sym here.sorted.1) here.polynomial

  pub all_tables : (tables : List Table) → TablesOf interpretation ts (how_many ts) tables → HoldThree tables (get_or parts 0 []) (get_or parts 1 []) (get_or parts 2 [])
  all_tables tables all = record { first = held 0 (omega arith); second = held 1 (omega arith); third = held 2 (omega arith) }
    where
      held : (j : ℕ) → j < 3 → Holds (cells_at tables j) (get_or parts j [])
      held j s =
          elim (cases_lt j (how_many ts)) [
            | inl h ↦ subst (Holds (cells_at tables j)) (sym (polynomial_at sig interpretation here.proper ts j h)) (all.done j h)
            | inr h ↦ let l = polynomials_length sig interpretation here.proper ts in subst (Holds (cells_at tables j)) (sym (get_or_past parts j [] (omega arith))) (all.missing j h s)
          ]

  pub all_room : ComposeRoom (polynomial_from bs) (get_or parts 0 []) (get_or parts 1 []) (get_or parts 2 [])
  all_room = subst (λ p. ComposeRoom p (get_or parts 0 []) (get_or parts 1 []) (get_or parts 2 [])) (sym here.polynomial) (compose_room sig interpretation here.proper f ts here.sorted fits few)

  pub all_held : (x : List ℕ) → Holds x (compose (polynomial_from bs) (get_or parts 0 [] ∷ get_or parts 1 [] ∷ get_or parts 2 [] ∷ [])) → Holds x (shifted interpretation (node f ts))
  all_held x holds =
      subst (Holds x) (compose_agree (get_or parts 0 [] ∷ get_or parts 1 [] ∷ get_or parts 2 [] ∷ []) parts (parts_three sig interpretation here.proper f ts here.sorted fits few) (interpretation f))
      (subst (λ p. Holds x (compose p (get_or parts 0 [] ∷ get_or parts 1 [] ∷ get_or parts 2 [] ∷ []))) here.polynomial holds)
