-- Closed classes whose symbols are ordered have a solution, which is a most general unifier of the terms of each class.
use Rattle.std.proofs.Common.{◌≡◌, ℕ, zero, suc, ◌+◌, ◌<◌, ◌≤◌, Bool, true, false, cond, not, eqb, ltb, ◌⊎◌, List, [], ◌∷◌, length, get_or, sym, refl, ap, ◌∙◌, subst, ap₂, inl, inr, arith, le-ltb, lt-ltb, eq-eqb, ne_eqb}
use native.Mathlib.Decide.{dec_lt, ℕ_discrete}
use borrow.Author.Tests.{both_ways}
use lib.ListN.{get_or-eq_default}
use Rattle.terms.specs.Term.{var, node, nil, cons, Term, Terms, Subst, sub, Occurs, size}
use Rattle.terms.specs.Prefix.{Arities, WellSorted}
use Rattle.unification.specs.Standing.{Stands, IsForest}
use Rattle.unification.specs.Classes.{Classes, Equates, SameClasses, Closed, Ordered, AllRanked, Solves, Initial, Merged, Clash, Progress, NoSolution, Begun, Bindings, Unified, NotUnified}
use Rattle.rewriting.specs.Unify.{Unifier}
use Rattle.unification.proofs.StandingFacts.{stands_below, stands_one, stands_at, stands_head, stands_tail, stands_arguments, is_var, is_node, OccursAt, offset_of}
use Rattle.unification.proofs.Counting.{total, total_part}
use Rattle.unification.proofs.Closure.{kind_of, initial_classes, initial_equates, merged_classes, merged_joins, merged_equates, clash_differs}
use Rattle.unification.proofs.Triangular.{Ranked, repeated, unbound, solution, instances, sorted_between, repeated_sorted}

-- ── a solution makes the terms of a class equal ──

same_sym : (rep : List ℕ) (a b : ℕ) (ss ts : Terms) → SameClasses rep a b ss ts → SameClasses rep b a ts ss
same_sym rep a b nil nil h = tt
same_sym rep a b nil (cons t ts) h = absurd h
same_sym rep a b (cons s ss) nil h = absurd h
same_sym rep a b (cons s ss) (cons t ts) h = (sym h.0, same_sym rep (a + size s) (b + size t) ss ts h.1)

-- the terms of one class with an instance of size below m have the same instance
abbrev EqualBelow : Arities → List ℕ → List ℕ → Subst → ℕ → Type 0
EqualBelow sig g rep μ m = (c d : ℕ) (s t : Term) → Stands sig g c s → Stands sig g d t → get_or rep c 0 ≡ get_or rep d 0 → size (sub μ s) < m → sub μ s ≡ sub μ t

arguments_equal : (sig : Arities) (g rep : List ℕ) (μ : Subst) (m : ℕ) → EqualBelow sig g rep μ m → (a b : ℕ) (ss ts : Terms) → Stands sig g a ss → Stands sig g b ts → SameClasses rep a b ss ts → size (sub μ ss) < m → sub μ ss ≡ sub μ ts
arguments_equal sig g rep μ m ih a b nil nil h k c z = refl
arguments_equal sig g rep μ m ih a b nil (cons t ts) h k c z = absurd c
arguments_equal sig g rep μ m ih a b (cons s ss) nil h k c z = absurd c
arguments_equal sig g rep μ m ih a b (cons s ss) (cons t ts) h k c z =
    ap₂ cons (ih a b s t (stands_head sig g a s ss h) (stands_head sig g b t ts k) c.0 (omega arith))
    (arguments_equal sig g rep μ m ih (a + size s) (b + size t) ss ts (stands_tail sig g a s ss h) (stands_tail sig g b t ts k) c.1 (omega arith))

-- a term and the one that represents it, if the instance of either is small

up : (sig : Arities) (g rep : List ℕ) (μ : Subst) (m : ℕ) → Classes g rep → Closed sig g rep → Solves sig g rep μ → EqualBelow sig g rep μ m → (i : ℕ) (s u : Term) → Stands sig g i s → Stands sig g (get_or rep i 0) u → (size (sub μ s) < suc m) ⊎ (size (sub μ u) < suc m) → sub μ s ≡ sub μ u
up sig g rep μ m c closed sol ih i s u h k z = go (kind_of (get_or g i 0))
  where
    hi : i < length g
    hi = stands_below sig g i s h

    nodes : (f e : ℕ) (ss us : Terms) → f ≡ e → Stands sig g i (node f ss) → Stands sig g (get_or rep i 0) (node e us) → SameClasses rep (i + 1) (get_or rep i 0 + 1) ss us → (size (sub μ (node f ss)) < suc m) ⊎ (size (sub μ (node e us)) < suc m) → sub μ (node f ss) ≡ sub μ (node e us)
    nodes f e ss us p a b q (inl z) = ap₂ node p (arguments_equal sig g rep μ m ih (i + 1) (get_or rep i 0 + 1) ss us (stands_arguments sig g i f ss a) (stands_arguments sig g (get_or rep i 0) e us b) q (omega arith))
    nodes f e ss us p a b q (inr z) = ap₂ node p (sym (arguments_equal sig g rep μ m ih (get_or rep i 0 + 1) (i + 1) us ss (stands_arguments sig g (get_or rep i 0) e us b) (stands_arguments sig g i f ss a) (same_sym rep (i + 1) (get_or rep i 0 + 1) ss us q) (omega arith)))

    go : (128 ≤ get_or g i 0) ⊎ (get_or g i 0 < 128) → sub μ s ≡ sub μ u
    go (inl v) = ap (sub μ) (is_var sig g i s h v) ∙ sol.bound i u hi v k
    go (inr v) =
        let code = c.symbol i hi v in
        let x = is_node sig g i s h v in
        let y = is_node sig g (get_or rep i 0) u k (subst (λ e. e < 128) (sym code) v) in
        let a = subst (Stands sig g i) x.1 h in
        let b = subst (Stands sig g (get_or rep i 0)) y.1 k in
        ap (sub μ) x.1
        ∙ nodes (get_or g i 0) (get_or g (get_or rep i 0) 0) x.0 y.0 (sym code) a b (closed i hi v (get_or g i 0) (get_or g (get_or rep i 0) 0) x.0 y.0 a b)
        (elim z [ inl l ↦ inl (subst (λ w. size (sub μ w) < suc m) x.1 l) | inr l ↦ inr (subst (λ w. size (sub μ w) < suc m) y.1 l) ])
        ∙ sym (ap (sub μ) y.1)

equal_below : (sig : Arities) (g rep : List ℕ) (μ : Subst) → IsForest sig g → Classes g rep → Closed sig g rep → Solves sig g rep μ → (m : ℕ) → EqualBelow sig g rep μ m
equal_below sig g rep μ forest c closed sol zero p q s t h k e z = absurd (omega arith)
equal_below sig g rep μ forest c closed sol (suc m) p q s t h k e z = go (equal_below sig g rep μ forest c closed sol m) (stands_at sig g (get_or rep p 0) forest (c.inside p (stands_below sig g p s h)))
  where
    go : EqualBelow sig g rep μ m → (u : Term) × Stands sig g (get_or rep p 0) u → sub μ s ≡ sub μ t
    go ih r =
        let first = up sig g rep μ m c closed sol ih p s r.0 h r.1 (inl z) in
        let second = up sig g rep μ m c closed sol ih q t r.0 k (subst (λ n. Stands sig g n r.0) e r.1) (inr (subst (λ w. size w < suc m) first z)) in
        first ∙ sym second

pub class_equal : (sig : Arities) (g rep : List ℕ) (μ : Subst) → IsForest sig g → Classes g rep → Closed sig g rep → Solves sig g rep μ → (p q : ℕ) (s t : Term) → Stands sig g p s → Stands sig g q t → get_or rep p 0 ≡ get_or rep q 0 → sub μ s ≡ sub μ t
class_equal sig g rep μ forest c closed sol p q s t h k e = equal_below sig g rep μ forest c closed sol (suc (size (sub μ s))) p q s t h k e (omega arith)

-- ── the solution ──

-- whether a code is a variable
unfoldable is_variable : ℕ → Bool
is_variable x = not (ltb x 128)

variable_yes : (x : ℕ) → 128 ≤ x → is_variable x ≡ true
unfolding is_variable
variable_yes x h = ap not (le-ltb x 128 h)

variable_no : (x : ℕ) → x < 128 → is_variable x ≡ false
unfolding is_variable
variable_no x h = ap not (lt-ltb x 128 h)

is_variable_true : (x : ℕ) → is_variable x ≡ true → 128 ≤ x
is_variable_true x e = elim (kind_of x) [ inl h ↦ h | inr h ↦ absurd (both_ways (is_variable x) (variable_no x h) e) ]

-- where a code stands, if it does
find : (g : List ℕ) (x : ℕ) → Dec ((j : ℕ) × (j < length g) × (get_or g j 0 ≡ x))
find [] x = no (λ f. let h = f.1 in omega arith)
find (c ∷ cs) x = go (ℕ_discrete c x) (find cs x)
  where
    go : Dec (c ≡ x) → Dec ((j : ℕ) × (j < length cs) × (get_or cs j 0 ≡ x)) → Dec ((j : ℕ) × (j < suc (length cs)) × (get_or (c ∷ cs) j 0 ≡ x))
    go (yes e) d = yes (0, omega arith, e)
    go (no n) (yes f) = yes (suc f.0, (let h = f.1 in omega arith), f.2)
    go (no n) (no m) = no (λ f. shift f.0 f.1 f.2)
      where
        shift : (j : ℕ) → j < suc (length cs) → get_or (c ∷ cs) j 0 ≡ x → ⊥
        shift zero h e = n e
        shift (suc j) h e = m (j, omega arith, e)

-- x is bound to the term that represents the offset j, where it stands
bind : (sig : Arities) (g rep : List ℕ) → IsForest sig g → Classes g rep → (x : ℕ) → (b : Bool) → Dec ((j : ℕ) × (j < length g) × (get_or g j 0 ≡ x)) → Term
bind sig g rep forest c x false d = var x
bind sig g rep forest c x true (no n) = var x
bind sig g rep forest c x true (yes f) = (stands_at sig g (get_or rep f.0 0) forest (c.inside f.0 f.1)).0

binding : (sig : Arities) (g rep : List ℕ) → IsForest sig g → Classes g rep → Subst
binding sig g rep forest c x = bind sig g rep forest c x (is_variable x) (find g x)

-- its rank: 0 if it represents its class, 1 if another variable does, and above that of the symbol that does
height : (g rep rank : List ℕ) (j : ℕ) → ℕ
height g rep rank j = cond (is_variable (get_or g (get_or rep j 0) 0)) (cond (eqb (get_or g (get_or rep j 0) 0) (get_or g j 0)) 0 1) (1 + get_or rank (get_or rep j 0) 0)

height_of : (g rep rank : List ℕ) (x : ℕ) → Dec ((j : ℕ) × (j < length g) × (get_or g j 0 ≡ x)) → ℕ
height_of g rep rank x (no n) = 0
height_of g rep rank x (yes f) = height g rep rank f.0

-- both at a variable that stands at j
binding_at : (sig : Arities) (g rep : List ℕ) (forest : IsForest sig g) (c : Classes g rep) (j : ℕ) (t : Term) → j < length g → 128 ≤ get_or g j 0 → Stands sig g (get_or rep j 0) t → binding sig g rep forest c (get_or g j 0) ≡ t
unfolding binding bind
binding_at sig g rep forest c j t h v k = go (is_variable (get_or g j 0)) (find g (get_or g j 0)) (variable_yes (get_or g j 0) v)
  where
    go : (b : Bool) (d : Dec ((i : ℕ) × (i < length g) × (get_or g i 0 ≡ get_or g j 0))) → b ≡ true → bind sig g rep forest c (get_or g j 0) b d ≡ t
    go false d e = absurd (both_ways false refl e)
    go true (no n) e = absurd (n (j, h, refl))
    go true (yes f) e =
        let x = stands_at sig g (get_or rep f.0 0) forest (c.inside f.0 f.1) in
        stands_one sig g (get_or rep j 0) x.0 t (subst (λ z. Stands sig g z x.0) (sym (c.shared j f.0 h f.1 v (sym f.2))) x.1) k

height_at : (g rep rank : List ℕ) (c : Classes g rep) (j : ℕ) → j < length g → 128 ≤ get_or g j 0 → height_of g rep rank (get_or g j 0) (find g (get_or g j 0)) ≡ height g rep rank j
unfolding height_of height
height_at g rep rank c j h v = go (find g (get_or g j 0))
  where
    go : (d : Dec ((i : ℕ) × (i < length g) × (get_or g i 0 ≡ get_or g j 0))) → height_of g rep rank (get_or g j 0) d ≡ height g rep rank j
    go (no n) = absurd (n (j, h, refl))
    go (yes f) = ap₂ (λ r x. cond (is_variable (get_or g r 0)) (cond (eqb (get_or g r 0) x) 0 1) (1 + get_or rank r 0)) (sym (c.shared j f.0 h f.1 v (sym f.2))) f.2

-- a code that is no variable of g is unbound
free_bind : (sig : Arities) (g rep : List ℕ) (forest : IsForest sig g) (c : Classes g rep) (x : ℕ) → ((j : ℕ) → j < length g → ¬ (get_or g j 0 ≡ x)) → (b : Bool) (d : Dec ((j : ℕ) × (j < length g) × (get_or g j 0 ≡ x))) → bind sig g rep forest c x b d ≡ var x
unfolding bind
free_bind sig g rep forest c x n false d = refl
free_bind sig g rep forest c x n true (no m) = refl
free_bind sig g rep forest c x n true (yes f) = absurd (n f.0 f.1 f.2)

-- what makes the terms of each class equal makes a variable equal to what it is bound to
equates_bind : (sig : Arities) (g rep : List ℕ) (forest : IsForest sig g) (c : Classes g rep) (σ : Subst) → Equates sig g rep σ → (x : ℕ) (b : Bool) (d : Dec ((j : ℕ) × (j < length g) × (get_or g j 0 ≡ x))) → is_variable x ≡ b → σ x ≡ sub σ (bind sig g rep forest c x b d)
unfolding bind
equates_bind sig g rep forest c σ eq x false d e = refl
equates_bind sig g rep forest c σ eq x true (no m) e = refl
equates_bind sig g rep forest c σ eq x true (yes f) e =
    let t = stands_at sig g f.0 forest f.1 in
    let u = stands_at sig g (get_or rep f.0 0) forest (c.inside f.0 f.1) in
    let v = is_var sig g f.0 t.0 t.1 (subst (λ z. 128 ≤ z) (sym f.2) (is_variable_true x e)) in
    sym (ap (sub σ) (v ∙ ap var f.2)) ∙ eq f.0 t.0 u.0 t.1 u.1

-- the rank of a variable, by its code
heights : (g rep rank : List ℕ) → ℕ → ℕ
heights g rep rank x = height_of g rep rank x (find g x)

-- the heights in the three cases
height_root : (g rep rank : List ℕ) (j : ℕ) → 128 ≤ get_or g (get_or rep j 0) 0 → height g rep rank j ≤ 1
unfolding height
height_root g rep rank j v = subst (λ b. cond b (cond (eqb (get_or g (get_or rep j 0) 0) (get_or g j 0)) 0 1) (1 + get_or rank (get_or rep j 0) 0) ≤ 1) (sym (variable_yes (get_or g (get_or rep j 0) 0) v)) (low (eqb (get_or g (get_or rep j 0) 0) (get_or g j 0)))
  where
    low : (b : Bool) → cond b 0 1 ≤ 1
    low true = omega arith
    low false = omega arith

height_own : (g rep rank : List ℕ) (j : ℕ) → 128 ≤ get_or g (get_or rep j 0) 0 → get_or g (get_or rep j 0) 0 ≡ get_or g j 0 → height g rep rank j ≡ 0
unfolding height
height_own g rep rank j v e =
    ap (λ b. cond b (cond (eqb (get_or g (get_or rep j 0) 0) (get_or g j 0)) 0 1) (1 + get_or rank (get_or rep j 0) 0)) (variable_yes (get_or g (get_or rep j 0) 0) v)
    ∙ ap (λ b. cond b 0 1) (eq-eqb (get_or g (get_or rep j 0) 0) (get_or g j 0) e)

height_other : (g rep rank : List ℕ) (j : ℕ) → 128 ≤ get_or g (get_or rep j 0) 0 → ¬ (get_or g (get_or rep j 0) 0 ≡ get_or g j 0) → height g rep rank j ≡ 1
unfolding height
height_other g rep rank j v e =
    ap (λ b. cond b (cond (eqb (get_or g (get_or rep j 0) 0) (get_or g j 0)) 0 1) (1 + get_or rank (get_or rep j 0) 0)) (variable_yes (get_or g (get_or rep j 0) 0) v)
    ∙ ap (λ b. cond b 0 1) (ne_eqb (get_or g (get_or rep j 0) 0) (get_or g j 0) e)

height_symbol : (g rep rank : List ℕ) (j : ℕ) → get_or g (get_or rep j 0) 0 < 128 → height g rep rank j ≡ 1 + get_or rank (get_or rep j 0) 0
unfolding height
height_symbol g rep rank j v = ap (λ b. cond b (cond (eqb (get_or g (get_or rep j 0) 0) (get_or g j 0)) 0 1) (1 + get_or rank (get_or rep j 0) 0)) (variable_no (get_or g (get_or rep j 0) 0) v)

-- a variable that stands at j
ranked_at : (sig : Arities) (g rep rank : List ℕ) (forest : IsForest sig g) (c : Classes g rep) → Ordered sig g rep rank → AllRanked g rank → (j : ℕ) → j < length g → 128 ≤ get_or g j 0 → (binding sig g rep forest c (get_or g j 0) ≡ var (get_or g j 0)) ⊎ ((0 < heights g rep rank (get_or g j 0)) × ((y : ℕ) → Occurs y (binding sig g rep forest c (get_or g j 0)) → heights g rep rank y < heights g rep rank (get_or g j 0)))
unfolding heights
ranked_at sig g rep rank forest c ordered ranked j h v = go (kind_of (get_or g r 0))
  where
    r : ℕ
    r = get_or rep j 0

    hr : r < length g
    hr = c.inside j h

    x : (t : Term) × Stands sig g r t
    x = stands_at sig g r forest hr

    τ : Subst
    τ = binding sig g rep forest c

    is : τ (get_or g j 0) ≡ x.0
    is = binding_at sig g rep forest c j x.0 h v x.1

    own_height : heights g rep rank (get_or g j 0) ≡ height g rep rank j
    own_height = height_at g rep rank c j h v

    other : 128 ≤ get_or g r 0 → Dec (get_or g r 0 ≡ get_or g j 0) → (τ (get_or g j 0) ≡ var (get_or g j 0)) ⊎ ((0 < heights g rep rank (get_or g j 0)) × ((y : ℕ) → Occurs y (τ (get_or g j 0)) → heights g rep rank y < heights g rep rank (get_or g j 0)))
    other w (yes e) = inl (is ∙ is_var sig g r x.0 x.1 w ∙ ap var e)
    other w (no n) =
        let one_high = own_height ∙ height_other g rep rank j w n in
        let root = height_at g rep rank c r hr w in
        let own = height_own g rep rank r (subst (λ z. 128 ≤ get_or g z 0) (sym (c.own j h)) w) (ap (λ z. get_or g z 0) (c.own j h)) in
        inr (
          omega arith,
          λ y o.
              let e : y ≡ get_or g r 0 = subst (Occurs y) (is ∙ is_var sig g r x.0 x.1 w) o in
              let z = ap (heights g rep rank) e in
              omega arith,
        )

    go : (128 ≤ get_or g r 0) ⊎ (get_or g r 0 < 128) → (τ (get_or g j 0) ≡ var (get_or g j 0)) ⊎ ((0 < heights g rep rank (get_or g j 0)) × ((y : ℕ) → Occurs y (τ (get_or g j 0)) → heights g rep rank y < heights g rep rank (get_or g j 0)))
    go (inl w) = other w (ℕ_discrete (get_or g r 0) (get_or g j 0))
    go (inr w) =
        let high = own_height ∙ height_symbol g rep rank j w in
        let pos = ranked r hr w in
        inr (omega arith, λ y o. below w high pos y (subst (Occurs y) is o))
      where
        below : get_or g r 0 < 128 → heights g rep rank (get_or g j 0) ≡ 1 + get_or rank r 0 → 0 < get_or rank r 0 → (y : ℕ) → Occurs y x.0 → heights g rep rank y < heights g rep rank (get_or g j 0)
        below w high pos y o = at (offset_of sig g r y x.0 x.1 o)
          where
            at : OccursAt g r (size x.0) y → heights g rep rank y < heights g rep rank (get_or g j 0)
            at p =
                let k = p.at_offset in
                let inside = x.1.inside in
                let last = p.below in
                let hk : k < length g = omega arith in
                let vk : 128 ≤ get_or g k 0 = subst (λ z. 128 ≤ z) (sym p.code) (sorted_between sig 8 x.0 y x.1.sorted o).0 in
                let same = ap (heights g rep rank) p.code in
                let hy = height_at g rep rank c k hk vk in
                cases k same hy (λ wk. (ordered r k x.0 pos w x.1 p.from last vk wk).1) (kind_of (get_or g (get_or rep k 0) 0))
              where
                cases : (k : ℕ) → heights g rep rank (get_or g k 0) ≡ heights g rep rank y → heights g rep rank (get_or g k 0) ≡ height g rep rank k → (get_or g (get_or rep k 0) 0 < 128 → get_or rank (get_or rep k 0) 0 < get_or rank r 0) → (128 ≤ get_or g (get_or rep k 0) 0) ⊎ (get_or g (get_or rep k 0) 0 < 128) → heights g rep rank y < heights g rep rank (get_or g j 0)
                cases k same hy lower (inl wk) = let z = height_root g rep rank k wk in omega arith
                cases k same hy lower (inr wk) = let z = height_symbol g rep rank k wk in let l = lower wk in omega arith

ranked_binding : (sig : Arities) (g rep rank : List ℕ) (forest : IsForest sig g) (c : Classes g rep) → Ordered sig g rep rank → AllRanked g rank → Ranked (binding sig g rep forest c) (heights g rep rank)
unfolding binding bind
ranked_binding sig g rep rank forest c ordered ranked x = go (kind_of x) (find g x) refl
  where
    go : (128 ≤ x) ⊎ (x < 128) → (d : Dec ((j : ℕ) × (j < length g) × (get_or g j 0 ≡ x))) → find g x ≡ d → (binding sig g rep forest c x ≡ var x) ⊎ ((0 < heights g rep rank x) × ((y : ℕ) → Occurs y (binding sig g rep forest c x) → heights g rep rank y < heights g rep rank x))
    go (inr v) d e = inl (ap (λ b. bind sig g rep forest c x b (find g x)) (variable_no x v))
    go (inl v) (no n) e = inl (ap₂ (bind sig g rep forest c x) (variable_yes x v) e)
    go (inl v) (yes f) e =
        subst (λ z. (binding sig g rep forest c z ≡ var z) ⊎ ((0 < heights g rep rank z) × ((y : ℕ) → Occurs y (binding sig g rep forest c z) → heights g rep rank y < heights g rep rank z))) f.2
        (ranked_at sig g rep rank forest c ordered ranked f.0 f.1 (subst (λ z. 128 ≤ z) (sym f.2) v))

-- all heights are at most this
highest : (rank : List ℕ) → ℕ
highest rank = 1 + total (λ i. get_or rank i 0) (length rank)

height_most : (g rep rank : List ℕ) (x : ℕ) → heights g rep rank x ≤ highest rank
unfolding heights height_of highest
height_most g rep rank x = go (find g x)
  where
    part : (i : ℕ) → Dec (i < length rank) → get_or rank i 0 ≤ total (λ i. get_or rank i 0) (length rank)
    part i (yes h) = total_part (λ i. get_or rank i 0) (length rank) i h
    part i (no n) = let z = get_or-eq_default rank 0 {n = i} (omega arith) in omega arith

    at : (j : ℕ) → (128 ≤ get_or g (get_or rep j 0) 0) ⊎ (get_or g (get_or rep j 0) 0 < 128) → height g rep rank j ≤ 1 + total (λ i. get_or rank i 0) (length rank)
    at j (inl v) = let h = height_root g rep rank j v in omega arith
    at j (inr v) = let h = height_symbol g rep rank j v in let p = part (get_or rep j 0) (dec_lt (get_or rep j 0) (length rank)) in omega arith

    go : (d : Dec ((j : ℕ) × (j < length g) × (get_or g j 0 ≡ x))) → height_of g rep rank x d ≤ 1 + total (λ i. get_or rank i 0) (length rank)
    go (no n) = omega arith
    go (yes f) = at f.0 (kind_of (get_or g (get_or rep f.0 0) 0))

-- ── what the ordered, closed classes give ──

unifier : (sig : Arities) (g rep rank : List ℕ) → IsForest sig g → Classes g rep → Subst
unifier sig g rep rank forest c = repeated (highest rank) (binding sig g rep forest c)

unifier_solves : (sig : Arities) (g rep rank : List ℕ) (forest : IsForest sig g) (c : Classes g rep) → Ordered sig g rep rank → AllRanked g rank → Solves sig g rep (unifier sig g rep rank forest c)
unfolding unifier binding
unifier_solves sig g rep rank forest c ordered ranked =
    record {
      bound = λ j t h v k. solved (get_or g j 0) ∙ ap (sub (unifier sig g rep rank forest c)) (binding_at sig g rep forest c j t h v k);
      root = root;
      free = λ x n. unbound (binding sig g rep forest c) x (free x n (is_variable x) (find g x)) (highest rank);
    }
  where
    solved : (x : ℕ) → repeated (highest rank) (binding sig g rep forest c) x ≡ sub (repeated (highest rank) (binding sig g rep forest c)) (binding sig g rep forest c x)
    solved = solution (binding sig g rep forest c) (heights g rep rank) (highest rank) (ranked_binding sig g rep rank forest c ordered ranked) (height_most g rep rank)

    free : (x : ℕ) → ((j : ℕ) → j < length g → ¬ (get_or g j 0 ≡ x)) → (b : Bool) (d : Dec ((j : ℕ) × (j < length g) × (get_or g j 0 ≡ x))) → bind sig g rep forest c x b d ≡ var x
    free x n b d = free_bind sig g rep forest c x n b d

    root : (j : ℕ) → j < length g → 128 ≤ get_or g j 0 → 128 ≤ get_or g (get_or rep j 0) 0 → repeated (highest rank) (binding sig g rep forest c) (get_or g j 0) ≡ var (get_or g (get_or rep j 0) 0)
    root j h v w =
        let r = get_or rep j 0 in
        let hr = c.inside j h in
        let t = stands_at sig g r forest hr in
        let t_is = is_var sig g r t.0 t.1 w in
        let z : binding sig g rep forest c (get_or g r 0) ≡ var (get_or g r 0) = binding_at sig g rep forest c r t.0 hr w (subst (λ n. Stands sig g n t.0) (sym (c.own j h)) t.1) ∙ t_is in
        solved (get_or g j 0) ∙ ap (sub (repeated (highest rank) (binding sig g rep forest c))) (binding_at sig g rep forest c j t.0 h v t.1 ∙ t_is)
        ∙ unbound (binding sig g rep forest c) (get_or g r 0) z (highest rank)

-- what makes the terms of each class equal is unchanged by the unifier
unifier_general : (sig : Arities) (g rep rank : List ℕ) (forest : IsForest sig g) (c : Classes g rep) (σ : Subst) → Equates sig g rep σ → (x : ℕ) → σ x ≡ sub σ (unifier sig g rep rank forest c x)
unfolding unifier binding
unifier_general sig g rep rank forest c σ eq = instances (binding sig g rep forest c) σ (λ x. one_step x (is_variable x) (find g x) refl) (highest rank)
  where
    one_step : (x : ℕ) (b : Bool) (d : Dec ((j : ℕ) × (j < length g) × (get_or g j 0 ≡ x))) → is_variable x ≡ b → σ x ≡ sub σ (bind sig g rep forest c x b d)
    one_step x b d e = equates_bind sig g rep forest c σ eq x b d e

-- the unifier makes terms of the signature of its variables
unifier_sorted : (sig : Arities) (g rep rank : List ℕ) (forest : IsForest sig g) (c : Classes g rep) (x : ℕ) → 128 ≤ x → x < 136 → WellSorted sig 8 (unifier sig g rep rank forest c x)
unfolding unifier binding bind
unifier_sorted sig g rep rank forest c = repeated_sorted sig (binding sig g rep forest c) (λ x a b. one_step x a b (is_variable x) (find g x)) (highest rank)
  where
    one_step : (x : ℕ) → 128 ≤ x → x < 136 → (b : Bool) (d : Dec ((j : ℕ) × (j < length g) × (get_or g j 0 ≡ x))) → WellSorted sig 8 (bind sig g rep forest c x b d)
    one_step x l m false d = (l, m)
    one_step x l m true (no n) = (l, m)
    one_step x l m true (yes f) = (stands_at sig g (get_or rep f.0 0) forest (c.inside f.0 f.1)).1.sorted

pub unified : (sig : Arities) (g start rep rank : List ℕ) (p q : ℕ) → IsForest sig g → p < length g → q < length g → Begun sig g start p q → Progress sig g start rep → Closed sig g rep → Bindings sig g rep rank → Unified sig g rep rank p q
unified sig g start rep rank p q forest hp hq b pr closed bs =
    record {
      bindings = bs;
      μ = μ;
      solves = solves;
      mgu = λ s t h k. record { unifies = class_equal sig g rep μ forest c closed solves p q s t h k (pr.same p q hp hq b.joined); general = λ σ u. (σ, general s t h k σ u) };
      sorted = unifier_sorted sig g rep rank forest c;
    }
  where
    c : Classes g rep
    c = bs.classes

    μ : Subst
    μ = unifier sig g rep rank forest c

    solves : Solves sig g rep μ
    solves = unifier_solves sig g rep rank forest c bs.ordered bs.ranked

    general : (s t : Term) → Stands sig g p s → Stands sig g q t → (σ : Subst) → Unifier σ s t → (x : ℕ) → σ x ≡ sub σ (μ x)
    general s t h k σ u = unifier_general sig g rep rank forest c σ (pr.keeps σ (b.equates s t h k σ u))

-- ── the beginning ──

pub begun_same : (sig : Arities) (g rep : List ℕ) (p q : ℕ) → length rep ≡ length g → ((i : ℕ) → i < length g → Initial g i (get_or rep i 0)) → get_or rep p 0 ≡ get_or rep q 0 → Begun sig g rep p q
begun_same sig g rep p q n at e = record { classes = initial_classes g rep n at; joined = e; equates = λ s t h k σ u. initial_equates sig g rep at σ }

-- a unifier makes the terms at p and q equal, and one term stands at each
pair_equal : (sig : Arities) (g : List ℕ) (p q : ℕ) (s t : Term) → Stands sig g p s → Stands sig g q t → (σ : Subst) → Unifier σ s t → (u v : Term) → Stands sig g p u → Stands sig g q v → sub σ u ≡ sub σ v
pair_equal sig g p q s t h k σ e u v hu hv = ap (sub σ) (stands_one sig g p u s hu h) ∙ e ∙ ap (sub σ) (stands_one sig g q t v k hv)

pub begun_merged : (sig : Arities) (g old rep : List ℕ) (p q : ℕ) → IsForest sig g → p < length g → q < length g → length old ≡ length g → length rep ≡ length g → ((i : ℕ) → i < length g → Initial g i (get_or old i 0)) → ¬ (get_or old p 0 ≡ get_or old q 0) → Merged g old rep (get_or old p 0) (get_or old q 0) → Begun sig g rep p q
begun_merged sig g old rep p q forest hp hq n n' at apart m =
    record {
      classes = merged_classes g old rep p q c n' hp hq apart m;
      joined = merged_joins g old rep p q (omega arith) (omega arith) m;
      equates = λ s t h k σ u. merged_equates sig g old rep p q forest c hp hq m σ (initial_equates sig g old at σ) (pair_equal sig g p q s t h k σ u);
    }
  where
    c : Classes g old
    c = initial_classes g old n at

pub begun_clash : (sig : Arities) (g rep : List ℕ) (p q : ℕ) → IsForest sig g → p < length g → q < length g → length rep ≡ length g → ((i : ℕ) → i < length g → Initial g i (get_or rep i 0)) → Clash g (get_or rep p 0) (get_or rep q 0) → NotUnified sig g p q
begun_clash sig g rep p q forest hp hq n at d s t h k σ u = clash_differs sig g rep p q forest (initial_classes g rep n at) hp hq d σ (initial_equates sig g rep at σ) (pair_equal sig g p q s t h k σ u)

pub not_closed : (sig : Arities) (g start : List ℕ) (p q : ℕ) → Begun sig g start p q → NoSolution sig g start → NotUnified sig g p q
not_closed sig g start p q b none s t h k σ u = none σ (b.equates s t h k σ u)

pub not_ordered : (sig : Arities) (g start rep : List ℕ) (p q : ℕ) → Begun sig g start p q → Progress sig g start rep → NoSolution sig g rep → NotUnified sig g p q
not_ordered sig g start rep p q b pr none s t h k σ u = none σ (pr.keeps σ (b.equates s t h k σ u))
