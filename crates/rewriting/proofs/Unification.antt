-- Unification: a most general unifier is found, or there is no unifier.
--
-- The recursion is on the number of variables that may stand in the two terms, and within that on the first term.
-- A pair of argument lists is solved from the left. If the first arguments are equal as they stand, the rest is a smaller term.
-- Otherwise their solution does away with a variable, and the rest, under that solution, has fewer.
use Rattle.std.proofs.Common.{◌≡◌, ℕ, zero, suc, ◌<◌, ◌≤◌, ◌⊎◌, List, [], ◌∷◌, ◌++◌, length, sym, refl, ap, ◌∙◌, subst, ap₂, inl, inr, arith}
use native.Mathlib.Decide.{ℕ_discrete}
use Rattle.terms.specs.Term.{Kind, many, Tree, var, node, nil, cons, Term, Terms, Subst, sub, after, Occurs, size}
use Rattle.rewriting.specs.Unify.{IsMgu, NotUnifiable}
use Rattle.rewriting.proofs.Substitution.{sub_cong, sub_sub, sub_var, update, update_same, update_case}

-- ── lists of variables ──

-- x is in the list
abbrev In : ℕ → List ℕ → Type 0
In x [] = ⊥
In x (y ∷ ys) = (x ≡ y) ⊎ In x ys

-- the list without x
keep_unless : {P : Type 0} → Dec P → ℕ → List ℕ → List ℕ
keep_unless (yes p) y ys = ys
keep_unless (no n) y ys = y ∷ ys

remove : ℕ → List ℕ → List ℕ
remove x [] = []
remove x (y ∷ ys) = keep_unless (ℕ_discrete x y) y (remove x ys)

in_remove : (x y : ℕ) (ys : List ℕ) → ¬ (y ≡ x) → In y ys → In y (remove x ys)
unfolding remove keep_unless
in_remove x y [] n i = i
in_remove x y (z ∷ zs) n (inl e) = go (ℕ_discrete x z)
  where
    go : (d : Dec (x ≡ z)) → In y (keep_unless d z (remove x zs))
    go (yes p) = absurd (n (e ∙ sym p))
    go (no m) = inl e
in_remove x y (z ∷ zs) n (inr i) = go (ℕ_discrete x z) (in_remove x y zs n i)
  where
    go : (d : Dec (x ≡ z)) → In y (remove x zs) → In y (keep_unless d z (remove x zs))
    go (yes p) h = h
    go (no m) h = inr h

remove_le : (x : ℕ) (ys : List ℕ) → length (remove x ys) ≤ length ys
unfolding remove keep_unless
remove_le x [] = omega arith
remove_le x (z ∷ zs) = go (ℕ_discrete x z) (remove_le x zs)
  where
    go : (d : Dec (x ≡ z)) → length (remove x zs) ≤ length zs → length (keep_unless d z (remove x zs)) ≤ suc (length zs)
    go (yes p) h = omega arith
    go (no m) h = omega arith

remove_lt : (x : ℕ) (ys : List ℕ) → In x ys → length (remove x ys) < length ys
unfolding remove keep_unless
remove_lt x [] i = absurd i
remove_lt x (z ∷ zs) (inl e) = go (ℕ_discrete x z) (remove_le x zs)
  where
    go : (d : Dec (x ≡ z)) → length (remove x zs) ≤ length zs → length (keep_unless d z (remove x zs)) < suc (length zs)
    go (yes p) h = omega arith
    go (no m) h = absurd (m e)
remove_lt x (z ∷ zs) (inr i) = go (ℕ_discrete x z) (remove_lt x zs i)
  where
    go : (d : Dec (x ≡ z)) → length (remove x zs) < length zs → length (keep_unless d z (remove x zs)) < suc (length zs)
    go (yes p) h = omega arith
    go (no m) h = omega arith

-- every variable of t is in the list
abbrev Over : {k : Kind} → List ℕ → Tree k → Type 0
Over V t = (x : ℕ) → Occurs x t → In x V

-- ── variables in a term ──

pub occurs? : {k : Kind} (x : ℕ) (t : Tree k) → Dec (Occurs x t)
occurs? x (var y) = ℕ_discrete x y
occurs? x (node f ts) = occurs? x ts
occurs? x nil = no (λ h. h)
occurs? x (cons t ts) = go (occurs? x t) (occurs? x ts)
  where
    go : Dec (Occurs x t) → Dec (Occurs x ts) → Dec (Occurs x t ⊎ Occurs x ts)
    go (yes a) d = yes (inl a)
    go (no n) (yes b) = yes (inr b)
    go (no n) (no m) = no (elim [ inl a ↦ n a | inr b ↦ m b ])

-- what stands in an instance stands in the instance of some variable
pub occurs_sub : {k : Kind} (μ : Subst) (t : Tree k) (z : ℕ) → Occurs z (sub μ t) → (x : ℕ) × Occurs x t × Occurs z (μ x)
occurs_sub μ (var x) z o = (x, refl, o)
occurs_sub μ (node f ts) z o = occurs_sub μ ts z o
occurs_sub μ nil z o = absurd o
occurs_sub μ (cons t ts) z (inl o) = let r = occurs_sub μ t z o in (r.0, inl r.1, r.2)
occurs_sub μ (cons t ts) z (inr o) = let r = occurs_sub μ ts z o in (r.0, inr r.1, r.2)

over_sub : {k : Kind} (V W : List ℕ) (μ : Subst) (t : Tree k) → Over V t → ((x : ℕ) → In x V → Over W (μ x)) → Over W (sub μ t)
over_sub V W μ t h keeps z o = let r = occurs_sub μ t z o in keeps r.0 (h r.0 r.1) z r.2

-- the instance of a variable of t is no larger than the instance of t
pub size_occurs : {k : Kind} (σ : Subst) (x : ℕ) (t : Tree k) → Occurs x t → size (σ x) ≤ size (sub σ t)
size_occurs σ x (var y) o = subst (λ z. size (σ x) ≤ size (σ z)) o (omega arith)
size_occurs σ x (node f ts) o = let h = size_occurs σ x ts o in omega arith
size_occurs σ x nil o = absurd o
size_occurs σ x (cons t ts) (inl o) = let h = size_occurs σ x t o in omega arith
size_occurs σ x (cons t ts) (inr o) = let h = size_occurs σ x ts o in omega arith

-- ── what is shown of two terms over the variables V ──

-- A solution μ that does away with a variable: its terms are over a shorter list. Every unifier is unchanged by μ.
record Solved {k : Kind} (V : List ℕ) (s t : Tree k) : Type 0 where
  μ : Subst
  unifies : sub μ s ≡ sub μ t
  general : (σ : Subst) → sub σ s ≡ sub σ t → (x : ℕ) → σ x ≡ sub σ (μ x)
  left_over : List ℕ
  fewer : length left_over < length V
  keeps : (x : ℕ) → In x V → Over left_over (μ x)

data Outcome {k : Kind} (V : List ℕ) (s t : Tree k) : Type 0 where
  differ : NotUnifiable s t → Outcome V s t
  equal : s ≡ t → Outcome V s t
  solved : Solved V s t → Outcome V s t

clash : ◌≡◌ {A = ℕ} 0 1 → ⊥
clash z = omega arith

flip : {k : Kind} (V : List ℕ) (s t : Tree k) → Outcome V s t → Outcome V t s
flip V s t (differ h) = differ (λ σ e. h σ (sym e))
flip V s t (equal e) = equal (sym e)
flip V s t (solved m) =
    solved record {
      μ = m.μ;
      unifies = sym m.unifies;
      general = λ σ e. m.general σ (sym e);
      left_over = m.left_over;
      fewer = m.fewer;
      keeps = m.keeps;
    }

-- x is sent to t, in which it does not stand
bind : (V : List ℕ) (x : ℕ) (t : Term) → In x V → Over V t → ¬ Occurs x t → Solved V (var x) t
bind V x t i h n =
    record {
      μ = update var x t;
      unifies = update_same var x t ∙ sym (sub_cong t (update var x t) var unchanged ∙ sub_var t);
      general = λ σ e. update_case var x t (λ y u. σ y ≡ sub σ u) e (λ y m. refl);
      left_over = remove x V;
      fewer = remove_lt x V i;
      keeps =
          update_case var x t (λ y u. In y V → Over (remove x V) u)
          (λ j z o. in_remove x z V (λ e. n (subst (λ w. Occurs w t) e o)) (h z o))
          (λ y m j z o. subst (λ w. In w (remove x V)) (sym o) (in_remove x y V m j));
    }
  where
    unchanged : (y : ℕ) → Occurs y t → update var x t y ≡ var y
    unchanged = update_case var x t (λ y u. Occurs y t → u ≡ var y) (λ o. absurd (n o)) (λ y m o. refl)

solve_var : (V : List ℕ) (x : ℕ) (t : Term) → In x V → Over V t → Outcome V (var x) t
solve_var V x (var y) i h = go (ℕ_discrete x y)
  where
    go : Dec (x ≡ y) → Outcome V (var x) (var y)
    go (yes e) = equal (ap var e)
    go (no n) = solved (bind V x (var y) i h n)
solve_var V x (node f ts) i h = go (occurs? x ts)
  where
    -- the occurs check: an instance of x would be larger than itself
    go : Dec (Occurs x ts) → Outcome V (var x) (node f ts)
    go (yes o) = differ (λ σ e. let a = size_occurs σ x ts o in let b = ap size e in omega arith)
    go (no n) = solved (bind V x (node f ts) i h n)

-- ── the solver ──

-- if the first arguments are solved by m, the rest is solved under m
after_first : (V : List ℕ) (s t : Term) (ss ts : Terms) (m : Solved V s t) → Outcome m.left_over (sub m.μ ss) (sub m.μ ts) → Outcome V (cons s ss) (cons t ts)
after_first V s t ss ts m rest = go rest
  where
    μ₁ : Subst
    μ₁ = m.μ

    -- a unifier of both parts is one of the rest under μ₁ too
    moved : {k : Kind} (σ : Subst) → sub σ s ≡ sub σ t → (u : Tree k) → sub σ (sub μ₁ u) ≡ sub σ u
    moved σ e u = sub_sub σ μ₁ u ∙ sub_cong u (after σ μ₁) σ (λ x o. sym (m.general σ e x))

    rest_too : (σ : Subst) → sub σ s ≡ sub σ t → sub σ ss ≡ sub σ ts → sub σ (sub μ₁ ss) ≡ sub σ (sub μ₁ ts)
    rest_too σ e f = moved σ e ss ∙ f ∙ sym (moved σ e ts)

    go : Outcome m.left_over (sub μ₁ ss) (sub μ₁ ts) → Outcome V (cons s ss) (cons t ts)
    go (differ h) = differ (λ σ e. h σ (rest_too σ (cc) (cc)))
    go (equal e) =
        solved record {
          μ = μ₁;
          unifies = ap₂ cons m.unifies e;
          general = λ σ f. m.general σ (cc);
          left_over = m.left_over;
          fewer = m.fewer;
          keeps = m.keeps;
        }
    go (solved r) =
        solved record {
          μ = after r.μ μ₁;
          unifies =
              ap₂ cons
              (sym (sub_sub r.μ μ₁ s) ∙ ap (sub r.μ) m.unifies ∙ sub_sub r.μ μ₁ t)
              (sym (sub_sub r.μ μ₁ ss) ∙ r.unifies ∙ sub_sub r.μ μ₁ ts);
          general = λ σ f x.
              let e : sub σ s ≡ sub σ t = cc in
              m.general σ e x
              ∙ sub_cong (μ₁ x) σ (after σ r.μ) (λ y o. r.general σ (rest_too σ e (cc)) y)
              ∙ sym (sub_sub σ r.μ (μ₁ x));
          left_over = r.left_over;
          fewer = let a = m.fewer in let b = r.fewer in omega arith;
          keeps = λ x i. over_sub m.left_over r.left_over r.μ (μ₁ x) (m.keeps x i) r.keeps;
        }

-- if the first arguments are equal, so is the outcome of the rest
after_equal : (V : List ℕ) (s t : Term) (ss ts : Terms) → s ≡ t → Outcome V ss ts → Outcome V (cons s ss) (cons t ts)
after_equal V s t ss ts e (differ h) = differ (λ σ f. h σ (cc))
after_equal V s t ss ts e (equal f) = equal (ap₂ cons e f)
after_equal V s t ss ts e (solved m) =
    solved record {
      μ = m.μ;
      unifies = ap₂ cons (ap (sub m.μ) e) m.unifies;
      general = λ σ f. m.general σ (cc);
      left_over = m.left_over;
      fewer = m.fewer;
      keeps = m.keeps;
    }

same_node : (V : List ℕ) (f g : ℕ) (ss ts : Terms) → f ≡ g → Outcome V ss ts → Outcome V (node f ss) (node g ts)
same_node V f g ss ts e (differ h) = differ (λ σ d. h σ (cc))
same_node V f g ss ts e (equal d) = equal (ap₂ node e d)
same_node V f g ss ts e (solved m) =
    solved record {
      μ = m.μ;
      unifies = ap₂ node e m.unifies;
      general = λ σ f. m.general σ (cc);
      left_over = m.left_over;
      fewer = m.fewer;
      keeps = m.keeps;
    }

-- what a solver does for fewer than n variables
abbrev SolvesBelow : ℕ → Type 0
SolvesBelow n = (k : Kind) (V : List ℕ) (s t : Tree k) → length V < n → Over V s → Over V t → Outcome V s t

module _ (n : ℕ) (again : SolvesBelow n) where
  solve_here : {k : Kind} (V : List ℕ) (s t : Tree k) → length V ≤ n → Over V s → Over V t → Outcome V s t
  solve_here V (var x) t l a b = solve_var V x t (a x refl) b
  solve_here V (node f ss) (var y) l a b = flip V (var y) (node f ss) (solve_var V y (node f ss) (b y refl) a)
  solve_here V (node f ss) (node g ts) l a b = go (ℕ_discrete f g) (solve_here V ss ts l a b)
    where
      go : Dec (f ≡ g) → Outcome V ss ts → Outcome V (node f ss) (node g ts)
      go (yes e) r = same_node V f g ss ts e r
      go (no d) r = differ (λ σ e. d (cc))
  solve_here V nil nil l a b = equal refl
  solve_here V nil (cons t ts) l a b = differ (λ σ e. clash (cc))
  solve_here V (cons s ss) nil l a b = differ (λ σ e. clash (cc))
  solve_here V (cons s ss) (cons t ts) l a b =
      go (solve_here V s t l (λ x o. a x (inl o)) (λ x o. b x (inl o))) (solve_here V ss ts l (λ x o. a x (inr o)) (λ x o. b x (inr o)))
    where
      go : Outcome V s t → Outcome V ss ts → Outcome V (cons s ss) (cons t ts)
      go (differ h) r = differ (λ σ e. h σ (cc))
      go (equal e) r = after_equal V s t ss ts e r
      go (solved m) r =
          after_first V s t ss ts m
          (again many m.left_over (sub m.μ ss) (sub m.μ ts)
          (let f = m.fewer in omega arith)
          (over_sub V m.left_over m.μ ss (λ x o. a x (inr o)) m.keeps)
          (over_sub V m.left_over m.μ ts (λ x o. b x (inr o)) m.keeps))

solve : (n : ℕ) → SolvesBelow n
solve zero k V s t l a b = absurd (omega arith)
solve (suc n) k V s t l a b = solve_here n (solve n) V s t (omega arith) a b

-- the variables of a term
vars : {k : Kind} → Tree k → List ℕ
vars (var x) = x ∷ []
vars (node f ts) = vars ts
vars nil = []
vars (cons t ts) = vars t ++ vars ts

in_left : (x : ℕ) (xs ys : List ℕ) → In x xs → In x (xs ++ ys)
in_left x (z ∷ xs) ys (inl e) = inl e
in_left x (z ∷ xs) ys (inr i) = inr (in_left x xs ys i)
in_left x [] ys i = absurd i

in_right : (x : ℕ) (xs ys : List ℕ) → In x ys → In x (xs ++ ys)
in_right x [] ys i = i
in_right x (z ∷ xs) ys i = inr (in_right x xs ys i)

over_vars : {k : Kind} (t : Tree k) → Over (vars t) t
unfolding vars
over_vars (var y) x o = inl o
over_vars (node f ts) x o = over_vars ts x o
over_vars nil x o = o
over_vars (cons t ts) x (inl o) = in_left x (vars t) (vars ts) (over_vars t x o)
over_vars (cons t ts) x (inr o) = in_right x (vars t) (vars ts) (over_vars ts x o)

-- two terms have a most general unifier, or none at all
pub unification : (k : Kind) (s t : Tree k) → ((μ : Subst) × IsMgu μ s t) ⊎ NotUnifiable s t
unification k s t = go (solve (suc (length V)) k V s t (omega arith) (λ x o. in_left x (vars s) (vars t) (over_vars s x o)) (λ x o. in_right x (vars s) (vars t) (over_vars t x o)))
  where
    V : List ℕ
    V = vars s ++ vars t

    go : Outcome V s t → ((μ : Subst) × IsMgu μ s t) ⊎ NotUnifiable s t
    go (differ h) = inr h
    go (equal e) = inl (var, record { unifies = ap (sub var) e; general = λ σ f. (σ, λ x. refl) })
    go (solved m) = inl (m.μ, record { unifies = m.unifies; general = λ σ f. (σ, m.general σ f) })
