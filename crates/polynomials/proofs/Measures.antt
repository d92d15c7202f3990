-- What is measured of a term: its value with every variable at 2, and its degrees.
use Rattle.std.proofs.Common.{◌≡◌, ℕ, zero, suc, ◌+◌, ◌-◌, ◌<◌, ◌≤◌, cond, eqb, List, ◌∷◌, get_or, set, sym, refl, ap, ◌∙◌, ap₂, inl, inr, arith}
use Rattle.std.proofs.lemmas.Bool.{cases_lt, eq-eqb, ne_eqb, cond-true, cond-false}
use Rattle.terms.specs.Term.{Kind, Tree, var, node, nil, cons, Term, Terms, how_many}
use Rattle.terms.specs.Prefix.{Arities, WellSorted, behind, head_term}
use Rattle.polynomials.specs.Polynomial.{Exponents, Polynomial, exponent, value, greatest, dot, degree}
use Rattle.polynomials.specs.Interpretation.{Interpretation, Proper, unit, evaluate, polynomial_of}
use Rattle.polynomials.specs.Coding.{cut_off}
use Rattle.polynomials.specs.Measured.{Measure, ValueAtTwo, Degree, of_symbol, measured, Filled}
use Rattle.polynomials.proofs.Limits.{value_alike, greatest_alike}
use Rattle.polynomials.proofs.Walks.{filled_more, filled_alike, number_at, numbers_length}
use Rattle.polynomials.proofs.Degrees.{rise, degree_polynomial}

pub symbol_alike : (m : Measure) (limit : ℕ) (ns ms : List ℕ) → ((i : ℕ) → cut_off limit (get_or ns i 0) ≡ cut_off limit (get_or ms i 0)) → (p : Polynomial) → cut_off limit (of_symbol m p ns) ≡ cut_off limit (of_symbol m p ms)
symbol_alike ValueAtTwo limit ns ms alike p = value_alike limit ns ms alike p
symbol_alike (Degree i) limit ns ms alike p = greatest_alike limit ns ms alike p

-- ── the measures of the arguments ──

module _ (m : Measure) (interpretation : Interpretation) (ts : Terms) (args : List ℕ) where
  pub measures_more : (i n : ℕ) → i < 3 → i < how_many ts → Filled 2147483648 (measured m interpretation ts) args i → n ≡ cut_off 2147483648 (measured m interpretation (head_term (behind i ts))) → Filled 2147483648 (measured m interpretation ts) (set args i n) (i + 1)
  measures_more i n inside h filled is = filled_more 2147483648 (measured m interpretation ts) args i n inside filled (is ∙ ap (cut_off 2147483648) (sym (number_at (measured m interpretation) (measured m interpretation) refl (λ t ts. refl) ts i h)))

  pub symbol_measured : (f : ℕ) (p : Polynomial) → p ≡ interpretation f → Filled 2147483648 (measured m interpretation ts) args (how_many ts) → cut_off 2147483648 (of_symbol m p args) ≡ cut_off 2147483648 (measured m interpretation (node f ts))
  symbol_measured f p is filled =
      ap (λ q. cut_off 2147483648 (of_symbol m q args)) is
      ∙ symbol_alike m 2147483648 args (measured m interpretation ts) (filled_alike 2147483648 (measured m interpretation ts) args (how_many ts) filled (sym (numbers_length (measured m interpretation) (measured m interpretation) refl (λ t ts. refl) ts))) (interpretation f)

-- the degree of a variable: 1 in itself, and 0 in any other
unit_at : (i x : ℕ) → i < 4 → exponent i (unit x) ≡ cond (eqb x (128 + i)) 1 0
unit_at zero x h = refl
unit_at (suc zero) x h = refl
unit_at (suc (suc zero)) x h = refl
unit_at (suc (suc (suc zero))) x h = refl
unit_at (suc (suc (suc (suc i)))) x h = absurd (omega arith)

past_four : (i : ℕ) (e : Exponents) → 4 ≤ i → exponent i e ≡ 0
past_four zero e h = absurd (omega arith)
past_four (suc zero) e h = absurd (omega arith)
past_four (suc (suc zero)) e h = absurd (omega arith)
past_four (suc (suc (suc zero))) e h = absurd (omega arith)
past_four (suc (suc (suc (suc i)))) e h = refl

pub degree_one : (i x : ℕ) → 128 ≤ x → x < 132 → x - 128 ≡ i → exponent i (unit x) ≡ 1
degree_one i x l r e = unit_at i x (omega arith) ∙ cond-true (eqb x (128 + i)) 1 0 (eq-eqb x (128 + i) (omega arith))

pub degree_zero : (i x : ℕ) → 128 ≤ x → x < 132 → (x - 128 ≡ i → ⊥) → exponent i (unit x) ≡ 0
degree_zero i x l r ne =
    elim (cases_lt i 4) [
      | inl h ↦ unit_at i x h ∙ cond-false (eqb x (128 + i)) 1 0 (ne_eqb x (128 + i) (λ e. ne (omega arith)))
      | inr h ↦ past_four i (unit x) h
    ]

pub measured_value : {k : Kind} (interpretation : Interpretation) (t : Tree k) → measured ValueAtTwo interpretation t ≡ evaluate interpretation (λ x. 2) t
measured_value interpretation (var x) = refl
measured_value interpretation (node f ts) = ap (λ ns. value ns (interpretation f)) (measured_value interpretation ts)
measured_value interpretation nil = refl
measured_value interpretation (cons t ts) = ap₂ ◌∷◌ (measured_value interpretation t) (measured_value interpretation ts)

measured_rise : {k : Kind} (i : ℕ) (interpretation : Interpretation) (t : Tree k) → measured (Degree i) interpretation t ≡ rise interpretation (λ x. exponent i (unit x)) t
measured_rise i interpretation (var x) = refl
measured_rise i interpretation (node f ts) = ap (λ ns. greatest (dot ns) (interpretation f)) (measured_rise i interpretation ts)
measured_rise i interpretation nil = refl
measured_rise i interpretation (cons t ts) = ap₂ ◌∷◌ (measured_rise i interpretation t) (measured_rise i interpretation ts)

pub measured_degree : (sig : Arities) (interpretation : Interpretation) → Proper sig interpretation → (i : ℕ) (t : Term) → WellSorted sig 4 t → measured (Degree i) interpretation t ≡ degree i (polynomial_of interpretation t)
measured_degree sig interpretation proper i t w = measured_rise i interpretation t ∙ sym (degree_polynomial sig 4 interpretation proper i t w)
