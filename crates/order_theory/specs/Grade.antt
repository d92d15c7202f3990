-- Tests that compute: whether bytes are a side of a rule, and whether a term is greater by the path order; and the grades of two byte strings.
use Rattle.std.specs.Prelude.{ℕ, ◌+◌, Bool, true, false, cond, ◌&&◌, ◌||◌, List, [], ◌∷◌, length, Some, None, Option, ◌==◌, nat_le, nat_lt}
use Rattle.terms.specs.Term.{Kind, Tree, var, node, nil, cons, Term, how_many}
use Rattle.terms.specs.Prefix.{Arities, prefix, term_of}
use Rattle.polynomials.specs.Interpretation.{Interpretation}
use Rattle.polynomials.specs.Grade.{grade}

-- equal bytes
abbrev pub same_bytes : List ℕ → List ℕ → Bool
same_bytes [] [] = true
same_bytes [] (c ∷ cs) = false
same_bytes (b ∷ bs) [] = false
same_bytes (b ∷ bs) (c ∷ cs) = b == c && same_bytes bs cs

-- equal terms
abbrev pub same_term : {k : Kind} → Tree k → Tree k → Bool
same_term (var x) (var y) = x == y
same_term (var x) (node g us) = false
same_term (node f ts) (var y) = false
same_term (node f ts) (node g us) = f == g && same_term ts us
same_term nil nil = true
same_term nil (cons u us) = false
same_term (cons t ts) nil = false
same_term (cons t ts) (cons u us) = same_term t u && same_term ts us

-- the arity is n
abbrev pub is_arity : Option ℕ → ℕ → Bool
is_arity (Some m) n = m == n
is_arity None n = false

-- well-sorted
abbrev pub well_sorted : {k : Kind} → Arities → ℕ → Tree k → Bool
well_sorted sig vars (var x) = nat_le 128 x && nat_lt x (128 + vars)
well_sorted sig vars (node f ts) = nat_lt f 128 && (is_arity (sig f) (how_many ts) && well_sorted sig vars ts)
well_sorted sig vars nil = true
well_sorted sig vars (cons t ts) = well_sorted sig vars t && well_sorted sig vars ts

-- a side of a rule: at most 32 bytes, and one term of the signature with four variables
abbrev pub is_side : Arities → List ℕ → Bool
is_side sig bs = nat_le (length bs) 32 && (well_sorted sig 4 (term_of sig bs) && same_bytes (prefix (term_of sig bs)) bs)

-- The path order. Of a term and a term: the left is greater; of a term and a list: it is greater than all; of a list and a term: one of the list is
-- the term or greater; of two lists: as many, and the first that differs is greater on the left.
abbrev pub greater : {j k : Kind} → (ℕ → ℕ) → Tree j → Tree k → Bool
greater r (var x) (var y) = false
greater r (var x) (node g ts) = false
greater r (var x) nil = true
greater r (var x) (cons t ts) = greater r (var x) t && greater r (var x) ts
greater r (node f ss) (var y) = greater r ss (var y)
greater r (node f ss) (node g ts) = greater r ss (node g ts) || (greater r (node f ss) ts && (nat_lt (r g) (r f) || (f == g && greater r ss ts)))
greater r (node f ss) nil = true
greater r (node f ss) (cons t ts) = greater r (node f ss) t && greater r (node f ss) ts
greater r nil (var y) = false
greater r nil (node g ts) = false
greater r nil nil = false
greater r nil (cons t ts) = false
greater r (cons s ss) (var y) = same_term s (var y) || (greater r s (var y) || greater r ss (var y))
greater r (cons s ss) (node g ts) = same_term s (node g ts) || (greater r s (node g ts) || greater r ss (node g ts))
greater r (cons s ss) nil = false
greater r (cons s ss) (cons t ts) = (greater r s t && how_many ss == how_many ts) || (same_term s t && greater r ss ts)

-- ── the grade of two byte strings ──

-- from a grade of terms: 8 if one is no side of a rule, else the grade of the terms that they are
abbrev pub grade_of_bytes : Arities → (Term → Term → ℕ) → List ℕ → List ℕ → ℕ
grade_of_bytes sig grade bs cs = cond (is_side sig bs && is_side sig cs) (grade (term_of sig bs) (term_of sig cs)) 8

-- The path order's grade of two byte strings: 8 if one is no side of a rule, else 0 if the left is greater, else 1.
abbrev pub path_grade : Arities → (ℕ → ℕ) → List ℕ → List ℕ → ℕ
path_grade sig rank bs cs =
    cond (is_side sig bs && is_side sig cs) (cond (greater rank (term_of sig bs) (term_of sig cs)) 0 1) 8

-- by the polynomials of an interpretation
abbrev pub polynomial_grade : Arities → Interpretation → List ℕ → List ℕ → ℕ
polynomial_grade sig interpretation = grade_of_bytes sig (grade interpretation)
