-- The laws of substitution and of contexts.
use Rattle.std.proofs.Common.{◌≡◌, ℕ, sym, refl, ap, ◌∙◌, subst, ap₂, inl, inr}
use native.Mathlib.Decide.{ℕ_discrete}
use Rattle.terms.specs.Term.{Kind, one, Tree, var, node, nil, cons, Term, Subst, sub, after, Occurs}
use Rattle.terms.specs.Place.{Context, hole, under, head, tail, plug, sub_context, compose}

-- substitutions that agree on the variables of t do the same to t
pub sub_cong : {k : Kind} (t : Tree k) (σ τ : Subst) → ((x : ℕ) → Occurs x t → σ x ≡ τ x) → sub σ t ≡ sub τ t
sub_cong (var x) σ τ h = h x refl
sub_cong (node f ts) σ τ h = ap (node f) (sub_cong ts σ τ h)
sub_cong nil σ τ h = refl
sub_cong (cons t ts) σ τ h = ap₂ cons (sub_cong t σ τ (λ x o. h x (inl o))) (sub_cong ts σ τ (λ x o. h x (inr o)))

-- and if they do the same to t, they agree on its variables
pub sub_agree : {k : Kind} (t : Tree k) (σ τ : Subst) → sub σ t ≡ sub τ t → (x : ℕ) → Occurs x t → σ x ≡ τ x
sub_agree (var y) σ τ e x o = ap σ o ∙ e ∙ ap τ (sym o)
sub_agree (node f ts) σ τ e x o = sub_agree ts σ τ (cc) x o
sub_agree nil σ τ e x o = absurd o
sub_agree (cons t ts) σ τ e x (inl o) = sub_agree t σ τ (cc) x o
sub_agree (cons t ts) σ τ e x (inr o) = sub_agree ts σ τ (cc) x o

-- one substitution after another is their composition
pub sub_sub : {k : Kind} (σ τ : Subst) (t : Tree k) → sub σ (sub τ t) ≡ sub (after σ τ) t
sub_sub σ τ (var x) = refl
sub_sub σ τ (node f ts) = ap (node f) (sub_sub σ τ ts)
sub_sub σ τ nil = refl
sub_sub σ τ (cons t ts) = ap₂ cons (sub_sub σ τ t) (sub_sub σ τ ts)

pub sub_var : {k : Kind} (t : Tree k) → sub var t ≡ t
sub_var (var x) = refl
sub_var (node f ts) = ap (node f) (sub_var ts)
sub_var nil = refl
sub_var (cons t ts) = ap₂ cons (sub_var t) (sub_var ts)

-- σ is δ after μ on the variables of t: then so it is on t
pub sub_factor : {k : Kind} (t : Tree k) (σ δ μ : Subst) → ((x : ℕ) → Occurs x t → σ x ≡ sub δ (μ x)) → sub σ t ≡ sub δ (sub μ t)
sub_factor t σ δ μ h = sub_cong t σ (after δ μ) h ∙ sym (sub_sub δ μ t)

pub sub_plug : {k : Kind} (σ : Subst) (C : Context k) (s : Term) → sub σ (plug C s) ≡ plug (sub_context σ C) (sub σ s)
sub_plug σ hole s = refl
sub_plug σ (under f C) s = ap (node f) (sub_plug σ C s)
sub_plug σ (head C ts) s = ap (λ u. cons u (sub σ ts)) (sub_plug σ C s)
sub_plug σ (tail t C) s = ap (cons (sub σ t)) (sub_plug σ C s)

pub plug_compose : {k : Kind} (C : Context k) (D : Context one) (s : Term) → plug (compose C D) s ≡ plug C (plug D s)
plug_compose hole D s = refl
plug_compose (under f C) D s = ap (node f) (plug_compose C D s)
plug_compose (head C ts) D s = ap (λ u. cons u ts) (plug_compose C D s)
plug_compose (tail t C) D s = ap (cons t) (plug_compose C D s)

-- the same factoring for a context, on the variables of what stands around its hole
pub context_factor : {k : Kind} (C : Context k) (q : Term) (σ δ μ : Subst) → ((x : ℕ) → Occurs x (plug C q) → σ x ≡ sub δ (μ x)) → sub_context σ C ≡ sub_context δ (sub_context μ C)
context_factor hole q σ δ μ h = refl
context_factor (under f C) q σ δ μ h = ap (under f) (context_factor C q σ δ μ h)
context_factor (head C ts) q σ δ μ h =
    ap₂ head (context_factor C q σ δ μ (λ x o. h x (inl o))) (sub_factor ts σ δ μ (λ x o. h x (inr o)))
context_factor (tail t C) q σ δ μ h =
    ap₂ tail (sub_factor t σ δ μ (λ x o. h x (inl o))) (context_factor C q σ δ μ (λ x o. h x (inr o)))

-- a variable of the term in the hole stands in the whole
pub occurs_plug : {k : Kind} (C : Context k) (q : Term) (x : ℕ) → Occurs x q → Occurs x (plug C q)
occurs_plug hole q x o = o
occurs_plug (under f C) q x o = occurs_plug C q x o
occurs_plug (head C ts) q x o = inl (occurs_plug C q x o)
occurs_plug (tail t C) q x o = inr (occurs_plug C q x o)

-- σ with the variable x sent to t
choose : {P : Type 0} → Dec P → Term → Term → Term
choose (yes p) t u = t
choose (no n) t u = u

pub update : Subst → ℕ → Term → Subst
update σ x t y = choose (ℕ_discrete y x) t (σ y)

pub update_same : (σ : Subst) (x : ℕ) (t : Term) → update σ x t x ≡ t
unfolding update choose
update_same σ x t = go (ℕ_discrete x x)
  where
    go : (d : Dec (x ≡ x)) → choose d t (σ x) ≡ t
    go (yes p) = refl
    go (no n) = absurd (n refl)

-- what holds of t at x, and of σ y at every other y, holds of the updated σ
pub update_case : (σ : Subst) (x : ℕ) (t : Term) (P : ℕ → Term → Type 0) → P x t → ((y : ℕ) → ¬ (y ≡ x) → P y (σ y)) → (y : ℕ) → P y (update σ x t y)
unfolding update choose
update_case σ x t P p q y = go (ℕ_discrete y x)
  where
    go : (d : Dec (y ≡ x)) → P y (choose d t (σ y))
    go (yes e) = subst (λ z. P z t) (sym e) p
    go (no n) = q y n
