-- Equality of terms and matching are decided.
use Rattle.std.proofs.Common.{◌≡◌, ℕ, ◌⊎◌, refl, ap, ◌∙◌, ap₂, inl, inr, arith}
use native.Mathlib.Decide.{ℕ_discrete}
use Rattle.terms.specs.Term.{Kind, Tree, var, node, nil, cons, Term, Subst, sub, Occurs}
use Rattle.rewriting.proofs.Substitution.{sub_cong, sub_agree}
use Rattle.rewriting.proofs.Unification.{occurs?}

clash : ◌≡◌ {A = ℕ} 0 1 → ⊥
clash z = omega arith

pub same? : {k : Kind} (s t : Tree k) → Dec (s ≡ t)
same? (var x) (var y) = go (ℕ_discrete x y)
  where
    go : Dec (x ≡ y) → Dec (var x ≡ var y)
    go (yes e) = yes (ap var e)
    go (no n) = no (λ e. n (cc))
same? (var x) (node g us) = no (λ e. clash (cc))
same? (node f ts) (var y) = no (λ e. clash (cc))
same? (node f ts) (node g us) = go (ℕ_discrete f g) (same? ts us)
  where
    go : Dec (f ≡ g) → Dec (ts ≡ us) → Dec (node f ts ≡ node g us)
    go (yes e) (yes d) = yes (ap₂ node e d)
    go (no n) d = no (λ e. n (cc))
    go (yes e) (no n) = no (λ h. n (cc))
same? nil nil = yes refl
same? nil (cons u us) = no (λ e. clash (cc))
same? (cons t ts) nil = no (λ e. clash (cc))
same? (cons t ts) (cons u us) = go (same? t u) (same? ts us)
  where
    go : Dec (t ≡ u) → Dec (ts ≡ us) → Dec (cons t ts ≡ cons u us)
    go (yes e) (yes d) = yes (ap₂ cons e d)
    go (no n) d = no (λ e. n (cc))
    go (yes e) (no n) = no (λ h. n (cc))

pick : {P : Type 0} → Dec P → Term → Term → Term
pick (yes p) t u = t
pick (no n) t u = u

-- σ on the variables of p, and τ elsewhere
override : {k : Kind} → Tree k → Subst → Subst → Subst
override p σ τ x = pick (occurs? x p) (σ x) (τ x)

-- if ρ agrees with σ on the variables of p, and with τ on those of q, then so does the override on those of q with ρ
override_agrees : {k m : Kind} (p : Tree k) (q : Tree m) (σ τ ρ : Subst) → ((x : ℕ) → Occurs x p → σ x ≡ ρ x) → ((x : ℕ) → Occurs x q → τ x ≡ ρ x) → (x : ℕ) → Occurs x q → override p σ τ x ≡ ρ x
unfolding override pick
override_agrees p q σ τ ρ a b x o = go (occurs? x p)
  where
    go : (d : Dec (Occurs x p)) → pick d (σ x) (τ x) ≡ ρ x
    go (yes h) = a x h
    go (no n) = b x o

override_left : {k : Kind} (p : Tree k) (σ τ : Subst) (x : ℕ) → Occurs x p → override p σ τ x ≡ σ x
unfolding override pick
override_left p σ τ x o = go (occurs? x p)
  where
    go : (d : Dec (Occurs x p)) → pick d (σ x) (τ x) ≡ σ x
    go (yes h) = refl
    go (no n) = absurd (n o)

-- t is an instance of the pattern p, or it is not
abbrev pub Match : {k : Kind} → Tree k → Tree k → Type 0
Match p t = ((σ : Subst) × (sub σ p ≡ t)) ⊎ ((σ : Subst) → ¬ (sub σ p ≡ t))

-- The arguments are matched one by one. What they have found is put together, and fits if there is any match at all.
pub matching : {k : Kind} (p t : Tree k) → Match p t
matching (var x) t = inl (λ y. t, refl)
matching (node f ps) (var y) = inr (λ σ e. clash (cc))
matching (node f ps) (node g ts) = go (ℕ_discrete f g) (matching ps ts)
  where
    go : Dec (f ≡ g) → Match ps ts → Match (node f ps) (node g ts)
    go (yes e) (inl m) = inl (m.0, ap₂ node e m.1)
    go (yes e) (inr n) = inr (λ σ h. n σ (cc))
    go (no n) m = inr (λ σ h. n (cc))
matching nil nil = inl (var, refl)
matching nil (cons t ts) = inr (λ σ e. clash (cc))
matching (cons p ps) nil = inr (λ σ e. clash (cc))
matching (cons p ps) (cons t ts) = go (matching p t) (matching ps ts)
  where
    together : (σ τ : Subst) → sub σ p ≡ t → sub τ ps ≡ ts → Dec (sub (override p σ τ) (cons p ps) ≡ cons t ts) → Match (cons p ps) (cons t ts)
    together σ τ a b (yes e) = inl (override p σ τ, e)
    together σ τ a b (no n) =
        inr (λ ρ e.
        let on_p : (x : ℕ) → Occurs x p → σ x ≡ ρ x = sub_agree p σ ρ (cc) in
        let on_ps : (x : ℕ) → Occurs x ps → τ x ≡ ρ x = sub_agree ps τ ρ (cc) in
        n (ap₂ cons
        (sub_cong p (override p σ τ) σ (override_left p σ τ) ∙ a)
        (sub_cong ps (override p σ τ) ρ (override_agrees p ps σ τ ρ on_p on_ps) ∙ (cc))))

    go : Match p t → Match ps ts → Match (cons p ps) (cons t ts)
    go (inl m) (inl r) = together m.0 r.0 m.1 r.1 (same? (sub (override p m.0 r.0) (cons p ps)) (cons t ts))
    go (inr n) r = inr (λ σ e. n σ (cc))
    go (inl m) (inr n) = inr (λ σ e. n σ (cc))
