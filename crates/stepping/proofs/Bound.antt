-- Which part a byte is bound to, and what changes where a free variable is bound.
use Rattle.std.proofs.Common.{◌≡◌, ℕ, zero, suc, ◌-◌, ◌<◌, ◌≤◌, ltb, ◌⊎◌, [], ◌∷◌, length, get_or, set, Some, None, Option, sym, refl, ap, ◌∙◌, subst, inl, inr, arith}
use Rattle.std.proofs.lemmas.List.{get_or-set_same, get_or-set_other}
use Rattle.std.proofs.lemmas.Option.{same_Some}
use Rattle.std.proofs.lemmas.Bool.{cases_eq, cases_lt, cond-true, cond-false, lt-ltb, le-ltb}
use Rattle.stepping.specs.Bindings.{Part, Bindings, bound_to, bytes_for, piece_of}

-- a code is bound to nothing
pub code_free : (bs : Bindings) (x : ℕ) → x < 128 → bound_to bs x ≡ None
code_free bs x h = cond-true (ltb x 128) None (get_or bs (x - 128) None) (lt-ltb x 128 h)

pub variable_bound : (bs : Bindings) (x : ℕ) → 128 ≤ x → bound_to bs x ≡ get_or bs (x - 128) None
variable_bound bs x h = cond-false (ltb x 128) None (get_or bs (x - 128) None) (le-ltb x 128 h)

-- a byte that is bound to nothing stays
pub piece_free : (bs : Bindings) (b : ℕ) → bound_to bs b ≡ None → piece_of bs b ≡ b ∷ []
piece_free bs b e = ap (bytes_for b) e

pub piece_bound : (bs : Bindings) (b : ℕ) (s : Part) → bound_to bs b ≡ Some s → piece_of bs b ≡ s.now
piece_bound bs b s e = ap (bytes_for b) e

-- four free variables
pub free_start : (i : ℕ) → get_or {A = Option Part} (None ∷ (None ∷ (None ∷ (None ∷ [])))) i None ≡ None
free_start zero = refl
free_start (suc zero) = refl
free_start (suc (suc zero)) = refl
free_start (suc (suc (suc zero))) = refl
free_start (suc (suc (suc (suc i)))) = refl

pub all_free : (bs : Bindings) → ((i : ℕ) → get_or bs i None ≡ None) → (x : ℕ) → bound_to bs x ≡ None
all_free bs free x = elim (cases_lt x 128) [ inl h ↦ code_free bs x h | inr h ↦ variable_bound bs x h ∙ free (x - 128) ]

module _ (bs : Bindings) (x : ℕ) (part : Part) (code : 128 ≤ x) (inside : x - 128 < length bs) where
  abbrev now_bound : Bindings
  now_bound = set bs (x - 128) (Some part)

  pub bound_now : bound_to now_bound x ≡ Some part
  bound_now = variable_bound now_bound x code ∙ get_or-set_same bs (x - 128) (Some part) None inside

  pub bound_other : (y : ℕ) → (y ≡ x → ⊥) → bound_to now_bound y ≡ bound_to bs y
  bound_other y d = elim (cases_lt y 128) [
    | inl h ↦ code_free now_bound y h ∙ sym (code_free bs y h)
    | inr h ↦ variable_bound now_bound y h ∙ get_or-set_other bs (x - 128) (y - 128) (Some part) None (λ e. d (omega arith)) ∙ sym (variable_bound bs y h)
  ]

  -- what is bound now was bound before, or it is x
  pub bound_before : (y : ℕ) (s : Part) → bound_to now_bound y ≡ Some s → ((y ≡ x) × (part ≡ s)) ⊎ (bound_to bs y ≡ Some s)
  bound_before y s e = elim (cases_eq y x) [
    | inl p ↦ inl (p, same_Some part s (sym bound_now ∙ subst (λ z. bound_to now_bound z ≡ Some s) p e))
    | inr q ↦ inr (sym (bound_other y q) ∙ e)
  ]
