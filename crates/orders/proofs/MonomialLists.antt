-- The monomials of a polynomial, one after the other.
use Rattle.std.proofs.Common.{◌≡◌, ℕ, zero, suc, ◌<◌, ◌≤◌, ◌⊎◌, [], ◌∷◌, ◌++◌, length, get_or, sym, refl, ap, ◌∙◌, subst, inl, inr, arith}
use Rattle.std.proofs.lemmas.List.{ext_get_or}
use Rattle.polynomials.specs.Polynomial.{Exponents, exponent, Monomial, Polynomial}
use Rattle.polynomials.specs.declared.monomial.Monomial.{Monomial as Read}
use Rattle.polynomials.specs.Meant.{meant}
use Rattle.orders.specs.Polynomials.{HasExponents, MonomialsFit}

-- ── the exponents of one ──

abbrev pub ExponentFits : ℕ → ℕ → ℕ → Type 0
ExponentFits n i e = (e ≤ 3) × (n ≤ i → e ≡ 0)

abbrev pub ExponentsFit : ℕ → Exponents → Type 0
ExponentsFit n e = ((i : ℕ) → exponent i e ≤ 3) × ((i : ℕ) → n ≤ i → exponent i e ≡ 0)

pub three_fit : (n : ℕ) (m : Read) → ExponentFits n 0 (get_or m.exponents 0 0) → ExponentFits n 1 (get_or m.exponents 1 0) → ExponentFits n 2 (get_or m.exponents 2 0) → ExponentsFit n (meant m).exponents
three_fit n m a b c = (small, absent)
  where
    small : (i : ℕ) → exponent i (meant m).exponents ≤ 3
    small zero = a.0
    small (suc zero) = b.0
    small (suc (suc zero)) = c.0
    small (suc (suc (suc zero))) = omega arith
    small (suc (suc (suc (suc i)))) = omega arith

    absent : (i : ℕ) → n ≤ i → exponent i (meant m).exponents ≡ 0
    absent zero h = a.1 h
    absent (suc zero) h = b.1 h
    absent (suc (suc zero)) h = c.1 h
    absent (suc (suc (suc zero))) h = refl
    absent (suc (suc (suc (suc i)))) h = refl

pub exponent_at : (m : Read) (i : ℕ) → i < 3 → exponent i (meant m).exponents ≡ get_or m.exponents i 0
exponent_at m zero h = refl
exponent_at m (suc zero) h = refl
exponent_at m (suc (suc zero)) h = refl
exponent_at m (suc (suc (suc i))) h = absurd (omega arith)

-- equal exponents are equal bytes
pub alike_of : (m o : Read) → m.exponents ≡ o.exponents → (meant m).exponents ≡ (meant o).exponents
alike_of m o e = ap (λ es. record { e0 = get_or es 0 0; e1 = get_or es 1 0; e2 = get_or es 2 0; e3 = 0 }) e

pub same_bytes : (m o : Read) → length m.exponents ≡ 3 → length o.exponents ≡ 3 → (meant m).exponents ≡ (meant o).exponents → m.exponents ≡ o.exponents
same_bytes m o l k e = ext_get_or 0 m.exponents o.exponents (l ∙ sym k) each
  where
    each : (i : ℕ) → i < length m.exponents → get_or m.exponents i 0 ≡ get_or o.exponents i 0
    each zero h = ap (λ e. e.e0) e
    each (suc zero) h = ap (λ e. e.e1) e
    each (suc (suc zero)) h = ap (λ e. e.e2) e
    each (suc (suc (suc i))) h = absurd (omega (arith, l))

-- ── each fits alone, and none behind it has its exponents ──

abbrev pub FitsAlone : ℕ → Monomial → Type 0
FitsAlone n m = ((1 ≤ m.factor) × (m.factor ≤ 65535)) × ExponentsFit n m.exponents

abbrev pub FitApart : ℕ → Polynomial → Type 0
FitApart n [] = Unit {0}
FitApart n (m ∷ p) = FitsAlone n m × (HasExponents m.exponents p → ⊥) × FitApart n p

-- none of the monomials has the exponents of one before
AllNew : Polynomial → Polynomial → Type 0
AllNew before [] = Unit {0}
AllNew before (m ∷ p) = (HasExponents m.exponents before → ⊥) × AllNew before p

has_of : (e : Exponents) (p : Polynomial) (m : Monomial) → HasExponents e (p ++ m ∷ []) → HasExponents e p ⊎ (m.exponents ≡ e)
has_of e [] m (inl s) = inr s
has_of e [] m (inr h) = absurd h
has_of e (q ∷ p) m (inl s) = inl (inl s)
has_of e (q ∷ p) m (inr h) = elim (has_of e p m h) [ inl a ↦ inl (inr a) | inr s ↦ inr s ]

has_still : (e : Exponents) (p q : Polynomial) → HasExponents e p → HasExponents e (p ++ q)
has_still e [] q h = absurd h
has_still e (m ∷ p) q (inl s) = inl s
has_still e (m ∷ p) q (inr h) = inr (has_still e p q h)

has_last : (p : Polynomial) (m : Monomial) → HasExponents m.exponents (p ++ m ∷ [])
has_last [] m = inl refl
has_last (q ∷ p) m = inr (has_last p m)

new_more : (before p : Polynomial) (m : Monomial) → AllNew before p → (HasExponents m.exponents p → ⊥) → AllNew (before ++ m ∷ []) p
unfolding AllNew
new_more before [] m a n = tt
new_more before (q ∷ p) m a n = (
  (λ h. elim (has_of q.exponents before m h) [ inl b ↦ a.0 b | inr s ↦ n (inl (sym s)) ]),
  new_more before p m a.1 (λ h. n (inr h)),
)

fit_behind : (n : ℕ) (before p : Polynomial) → FitApart n p → AllNew before p → MonomialsFit n before p
unfolding AllNew
fit_behind n before [] f a = tt
fit_behind n before (m ∷ p) f a = (
  record { least = f.0.0.0; most = f.0.0.1; small = f.0.1.0; absent = f.0.1.1; new = a.0 },
  fit_behind n (before ++ m ∷ []) p f.2 (new_more before p m a.1 f.1),
)

none_before : (p : Polynomial) → AllNew [] p
unfolding AllNew
none_before [] = tt
none_before (m ∷ p) = ((λ h. h), none_before p)

not_again : (n : ℕ) (before p : Polynomial) (e : Exponents) → MonomialsFit n before p → HasExponents e before → HasExponents e p → ⊥
not_again n before [] e f b h = h
not_again n before (m ∷ p) e f b (inl s) = f.0.new (subst (λ e. HasExponents e before) (sym s) b)
not_again n before (m ∷ p) e f b (inr h) = not_again n (before ++ m ∷ []) p e f.1 (has_still e before (m ∷ []) b) h

pub fit_apart : (n : ℕ) (before p : Polynomial) → MonomialsFit n before p → FitApart n p
fit_apart n before [] f = tt
fit_apart n before (m ∷ p) f = (
  ((f.0.least, f.0.most), (f.0.small, f.0.absent)),
  not_again n (before ++ m ∷ []) p m.exponents f.1 (has_last before m),
  fit_apart n (before ++ m ∷ []) p f.1,
)

pub all_fit : (n : ℕ) (p : Polynomial) → FitApart n p → MonomialsFit n [] p
all_fit n p f = fit_behind n [] p f (none_before p)
