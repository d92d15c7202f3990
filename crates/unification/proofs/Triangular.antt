-- A triangular substitution: one that can be ordered so that the terms for its variables have only earlier variables.
-- Carried out often enough it is a solution of its own equations, and every solution is an instance of it.
use Rattle.std.proofs.Common.{◌≡◌, ℕ, zero, suc, ◌+◌, ◌<◌, ◌≤◌, ◌⊎◌, sym, refl, ap, ◌∙◌, subst, inl, inr, arith}
use Rattle.terms.specs.Term.{Kind, Tree, var, node, nil, cons, Subst, sub, after, Occurs}
use Rattle.terms.specs.Prefix.{Arities, WellSorted}
use Rattle.rewriting.proofs.Sorted.{sorted_sub}
use Rattle.rewriting.proofs.Substitution.{sub_cong, sub_sub}

-- the variables of a term of the signature
pub sorted_between : {k : Kind} (sig : Arities) (n : ℕ) (u : Tree k) (x : ℕ) → WellSorted sig n u → Occurs x u → (128 ≤ x) × (x < 128 + n)
sorted_between sig n (var y) x w o = subst (λ z. (128 ≤ z) × (z < 128 + n)) (sym o) w
sorted_between sig n (node f ts) x w o = sorted_between sig n ts x w.2 o
sorted_between sig n nil x w o = absurd o
sorted_between sig n (cons t ts) x w (inl o) = sorted_between sig n t x w.0 o
sorted_between sig n (cons t ts) x w (inr o) = sorted_between sig n ts x w.1 o

-- each variable is unbound, or its term has variables of lower rank only
abbrev pub Ranked : Subst → (ℕ → ℕ) → Type 0
Ranked τ rank = (x : ℕ) → (τ x ≡ var x) ⊎ ((0 < rank x) × ((y : ℕ) → Occurs y (τ x) → rank y < rank x))

-- the substitution carried out n times
unfoldable pub repeated : ℕ → Subst → Subst
repeated zero τ x = var x
repeated (suc n) τ x = sub (repeated n τ) (τ x)

pub unbound : (τ : Subst) (x : ℕ) → τ x ≡ var x → (n : ℕ) → repeated n τ x ≡ var x
unfolding repeated
unbound τ x e zero = refl
unbound τ x e (suc n) = ap (sub (repeated n τ)) e ∙ unbound τ x e n

stays : (τ : Subst) (rank : ℕ → ℕ) → Ranked τ rank → (n x : ℕ) → rank x ≤ n → repeated (suc n) τ x ≡ repeated n τ x
unfolding repeated
stays τ rank h zero x b = go (h x)
  where
    go : (τ x ≡ var x) ⊎ ((0 < rank x) × ((y : ℕ) → Occurs y (τ x) → rank y < rank x)) → repeated (suc zero) τ x ≡ repeated zero τ x
    go (inl e) = unbound τ x e (suc zero)
    go (inr f) = absurd (let l = f.0 in omega arith)
stays τ rank h (suc n) x b = go (h x) (stays τ rank h n)
  where
    go : (τ x ≡ var x) ⊎ ((0 < rank x) × ((y : ℕ) → Occurs y (τ x) → rank y < rank x)) → ((y : ℕ) → rank y ≤ n → repeated (suc n) τ y ≡ repeated n τ y) → repeated (suc (suc n)) τ x ≡ repeated (suc n) τ x
    go (inl e) ih = unbound τ x e (suc (suc n)) ∙ sym (unbound τ x e (suc n))
    go (inr f) ih = sub_cong (τ x) (repeated (suc n) τ) (repeated n τ) (λ y o. ih y (let l = f.1 y o in omega arith))

-- what makes terms of the signature of its variables does so when it is carried out n times
pub repeated_sorted : (sig : Arities) (τ : Subst) → ((x : ℕ) → 128 ≤ x → x < 136 → WellSorted sig 8 (τ x)) → (n x : ℕ) → 128 ≤ x → x < 136 → WellSorted sig 8 (repeated n τ x)
unfolding repeated
repeated_sorted sig τ h zero x l m = (l, m)
repeated_sorted sig τ h (suc n) x l m =
    sorted_sub sig 8 8 (repeated n τ) (τ x) (h x l m) (λ y o. let v = sorted_between sig 8 (τ x) y (h x l m) o in repeated_sorted sig τ h n y v.0 v.1)

-- it solves its own equations
pub solution : (τ : Subst) (rank : ℕ → ℕ) (n : ℕ) → Ranked τ rank → ((x : ℕ) → rank x ≤ n) → (x : ℕ) → repeated n τ x ≡ sub (repeated n τ) (τ x)
unfolding repeated
solution τ rank n h b x = sym (stays τ rank h n x (b x))

-- and leaves every other solution unchanged
pub instances : (τ σ : Subst) → ((x : ℕ) → σ x ≡ sub σ (τ x)) → (n x : ℕ) → σ x ≡ sub σ (repeated n τ x)
unfolding repeated
instances τ σ h zero x = refl
instances τ σ h (suc n) x =
    h x ∙ sub_cong (τ x) σ (after σ (repeated n τ)) (λ y o. instances τ σ h n y) ∙ sym (sub_sub σ (repeated n τ) (τ x))
