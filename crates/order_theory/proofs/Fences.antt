-- The fence in words, and that it keeps the laws that the order beneath keeps.
use Rattle.std.proofs.Common.{◌≡◌, ℕ, ◌<◌, ◌≤◌, true, false, cond, eqb, ltb, leb, ◌⊎◌, List, [], ◌∷◌, ◌++◌, length, sym, refl, ap, ◌∙◌, subst, ap₂, inl, inr, arith}
use Rattle.std.proofs.lemmas.Bool.{false≢true, or_cases, or_left, or_right, and_from, and_parts, eqb-true, eqb-false, eq-eqb, ne_eqb, ltb-true, ltb-false, cases_Bool, le-leb, lt-leb}
use Rattle.terms.specs.Term.{Kind, Tree, var, node, nil, cons, Term, Terms, Occurs}
use Rattle.terms.specs.Prefix.{Arities, prefix, WellSorted, Reads}
use Rattle.order_theory.specs.Laws.{OrderLaws}
use Rattle.order_theory.specs.Fence.{ProperPair, has, is_known, keeps_variables, is_proper, fence_grade, FenceInWords}

-- ── one of the bytes ──

has_left : (x : ℕ) (ds bs : List ℕ) → has x ds ≡ true → has x (ds ++ bs) ≡ true
has_left x [] bs h = absurd (false≢true h)
has_left x (a ∷ ds) bs h = by (has_left x ds bs) (or_cases (eqb a x) (has x ds) h)
  where
    by : (has x ds ≡ true → has x (ds ++ bs) ≡ true) → (eqb a x ≡ true) ⊎ (has x ds ≡ true) → has x (a ∷ ds ++ bs) ≡ true
    by k (inl e) = or_left (eqb a x) (has x (ds ++ bs)) e
    by k (inr e) = or_right (eqb a x) (has x (ds ++ bs)) (k e)

has_right : (x : ℕ) (ds bs : List ℕ) → has x bs ≡ true → has x (ds ++ bs) ≡ true
has_right x [] bs h = h
has_right x (a ∷ ds) bs h = or_right (eqb a x) (has x (ds ++ bs)) (has_right x ds bs h)

has_split : (x : ℕ) (ds bs : List ℕ) → has x (ds ++ bs) ≡ true → (has x ds ≡ true) ⊎ (has x bs ≡ true)
has_split x [] bs h = inr h
has_split x (a ∷ ds) bs h = by (has_split x ds bs) (or_cases (eqb a x) (has x (ds ++ bs)) h)
  where
    later : (has x ds ≡ true) ⊎ (has x bs ≡ true) → (has x (a ∷ ds) ≡ true) ⊎ (has x bs ≡ true)
    later (inl e) = inl (or_right (eqb a x) (has x ds) e)
    later (inr e) = inr e

    by : (has x (ds ++ bs) ≡ true → (has x ds ≡ true) ⊎ (has x bs ≡ true)) → (eqb a x ≡ true) ⊎ (has x (ds ++ bs) ≡ true) → (has x (a ∷ ds) ≡ true) ⊎ (has x bs ≡ true)
    by k (inl e) = inl (or_left (eqb a x) (has x ds) e)
    by k (inr e) = later (k e)

-- ── a variable occurs in a term if it is one of its bytes ──

module _ (sig : Arities) (x : ℕ) where
  occurs_has : {k : Kind} (t : Tree k) → Occurs x t → has x (prefix t) ≡ true
  occurs_has (var y) o = or_left (eqb y x) false (eq-eqb y x (sym o))
  occurs_has (node f ts) o = or_right (eqb f x) (has x (prefix ts)) (occurs_has ts o)
  occurs_has nil o = absurd o
  occurs_has (cons t ts) (inl o) = has_left x (prefix t) (prefix ts) (occurs_has t o)
  occurs_has (cons t ts) (inr o) = has_right x (prefix t) (prefix ts) (occurs_has ts o)

  has_occurs : {k : Kind} (t : Tree k) → WellSorted sig 4 t → 128 ≤ x → has x (prefix t) ≡ true → Occurs x t
  has_occurs (var y) w v h = by (or_cases (eqb y x) false h)
    where
      by : (eqb y x ≡ true) ⊎ (false ≡ true) → x ≡ y
      by (inl e) = sym (eqb-true y x e)
      by (inr e) = absurd (false≢true e)
  has_occurs (node f ts) w v h = by (has_occurs ts w.2 v) (or_cases (eqb f x) (has x (prefix ts)) h)
    where
      by : (has x (prefix ts) ≡ true → Occurs x ts) → (eqb f x ≡ true) ⊎ (has x (prefix ts) ≡ true) → Occurs x ts
      by k (inl e) = absurd (omega (arith, eqb-true f x e, w.0))
      by k (inr e) = k e
  has_occurs nil w v h = absurd (false≢true h)
  has_occurs (cons t ts) w v h = by (has_occurs t w.0 v) (has_occurs ts w.1 v) (has_split x (prefix t) (prefix ts) h)
    where
      by : (has x (prefix t) ≡ true → Occurs x t) → (has x (prefix ts) ≡ true → Occurs x ts) → (has x (prefix t) ≡ true) ⊎ (has x (prefix ts) ≡ true) → Occurs x t ⊎ Occurs x ts
      by k l (inl e) = inl (k e)
      by k l (inr e) = inr (l e)

  occurring_variable : {k : Kind} (t : Tree k) → WellSorted sig 4 t → Occurs x t → 128 ≤ x
  occurring_variable (var y) w o = omega (arith, o, w.0)
  occurring_variable (node f ts) w o = occurring_variable ts w.2 o
  occurring_variable nil w o = absurd o
  occurring_variable (cons t ts) w (inl o) = occurring_variable t w.0 o
  occurring_variable (cons t ts) w (inr o) = occurring_variable ts w.1 o

-- ── all variables are kept ──

known_of : (bs cs : List ℕ) (x : ℕ) → keeps_variables bs cs ≡ true → has x cs ≡ true → is_known bs x ≡ true
known_of bs [] x k h = absurd (false≢true h)
known_of bs (c ∷ cs) x k h = by (known_of bs cs x parts.1) (or_cases (eqb c x) (has x cs) h)
  where
    parts : (is_known bs c ≡ true) × (keeps_variables bs cs ≡ true)
    parts = and_parts (is_known bs c) (keeps_variables bs cs) k

    by : (has x cs ≡ true → is_known bs x ≡ true) → (eqb c x ≡ true) ⊎ (has x cs ≡ true) → is_known bs x ≡ true
    by l (inl e) = subst (λ y. is_known bs y ≡ true) (eqb-true c x e) parts.0
    by l (inr e) = l e

keeps_from : (bs cs : List ℕ) → ((x : ℕ) → has x cs ≡ true → is_known bs x ≡ true) → keeps_variables bs cs ≡ true
keeps_from bs [] h = refl
keeps_from bs (c ∷ cs) h =
    and_from (is_known bs c) (keeps_variables bs cs)
    (h c (or_left (eqb c c) (has c cs) (eq-eqb c c refl)))
    (keeps_from bs cs (λ x e. h x (or_right (eqb c x) (has x cs) e)))

module _ (sig : Arities) (s t : Term) (ws : WellSorted sig 4 s) (wt : WellSorted sig 4 t) where
  kept : keeps_variables (prefix s) (prefix t) ≡ true → (x : ℕ) → Occurs x t → Occurs x s
  kept k x o = by (or_cases (ltb x 128) (has x (prefix s)) (known_of (prefix s) (prefix t) x k (occurs_has sig x t o)))
    where
      v : 128 ≤ x
      v = occurring_variable sig x t wt o

      by : (ltb x 128 ≡ true) ⊎ (has x (prefix s) ≡ true) → Occurs x s
      by (inl e) = absurd (omega (arith, v, ltb-true x 128 e))
      by (inr e) = has_occurs sig x s ws v e

  keeps : ((x : ℕ) → Occurs x t → Occurs x s) → keeps_variables (prefix s) (prefix t) ≡ true
  keeps h = keeps_from (prefix s) (prefix t) (λ x e. by x e (cases_Bool (ltb x 128)))
    where
      by : (x : ℕ) → has x (prefix t) ≡ true → (ltb x 128 ≡ true) ⊎ (ltb x 128 ≡ false) → is_known (prefix s) x ≡ true
      by x e (inl l) = or_left (ltb x 128) (has x (prefix s)) l
      by x e (inr l) = or_right (ltb x 128) (has x (prefix s)) (occurs_has sig x s (h x (has_occurs sig x t wt (ltb-false x 128 l) e)))

-- ── proper pairs ──

is_proper_node : (f : ℕ) (ts : Terms) (cs : List ℕ) → f < 128 → is_proper (prefix (node f ts)) cs ≡ keeps_variables (prefix (node f ts)) cs
is_proper_node f ts cs l =
    ap (λ v. cond v false (cond (leb 128 f) false (keeps_variables (prefix (node f ts)) cs))) (ne_eqb (length (f ∷ prefix ts)) 0 (λ e. omega arith))
    ∙ ap (λ v. cond v false (keeps_variables (prefix (node f ts)) cs)) (lt-leb 128 f l)

is_proper_variable : (x : ℕ) (cs : List ℕ) → 128 ≤ x → is_proper (prefix (var x)) cs ≡ false
is_proper_variable x cs v =
    ap (λ w. cond w false (cond (leb 128 x) false (keeps_variables (prefix (var x)) cs))) (ne_eqb (length (x ∷ [])) 0 (λ e. omega arith))
    ∙ ap (λ w. cond w false (keeps_variables (prefix (var x)) cs)) (le-leb 128 x v)

module _ (sig : Arities) where
  proper_complete : (s t : Term) → WellSorted sig 4 s → WellSorted sig 4 t → ProperPair s t → is_proper (prefix s) (prefix t) ≡ true
  proper_complete (var x) t ws wt h = absurd h.0
  proper_complete (node f ts) t ws wt h = is_proper_node f ts (prefix t) ws.0 ∙ keeps sig (node f ts) t ws wt h.1

  proper_sound : (s t : Term) → WellSorted sig 4 s → WellSorted sig 4 t → is_proper (prefix s) (prefix t) ≡ true → ProperPair s t
  proper_sound (var x) t ws wt h = absurd (false≢true (sym (is_proper_variable x (prefix t) ws.0) ∙ h))
  proper_sound (node f ts) t ws wt h = (tt, kept sig (node f ts) t ws wt (sym (is_proper_node f ts (prefix t) ws.0) ∙ h))

-- ── the grade ──

module _ (grade : List ℕ → List ℕ → ℕ) (bs cs : List ℕ) where
  as_beneath : grade bs cs ≡ 8 → fence_grade grade bs cs ≡ 8
  as_beneath e = ap (λ v. cond v 8 (cond (is_proper bs cs) (grade bs cs) 9)) (eq-eqb (grade bs cs) 8 e)

  past_eight : (grade bs cs ≡ 8 → ⊥) → fence_grade grade bs cs ≡ cond (is_proper bs cs) (grade bs cs) 9
  past_eight n = ap (λ v. cond v 8 (cond (is_proper bs cs) (grade bs cs) 9)) (ne_eqb (grade bs cs) 8 n)

  -- the fence gives 8, 9, or what is given beneath
  three_ways : ((grade bs cs ≡ 8) × (fence_grade grade bs cs ≡ 8)) ⊎ ((fence_grade grade bs cs ≡ 9) ⊎ (fence_grade grade bs cs ≡ grade bs cs))
  three_ways = by (cases_Bool (eqb (grade bs cs) 8)) (cases_Bool (is_proper bs cs))
    where
      by : (eqb (grade bs cs) 8 ≡ true) ⊎ (eqb (grade bs cs) 8 ≡ false) → (is_proper bs cs ≡ true) ⊎ (is_proper bs cs ≡ false)
          → ((grade bs cs ≡ 8) × (fence_grade grade bs cs ≡ 8)) ⊎ ((fence_grade grade bs cs ≡ 9) ⊎ (fence_grade grade bs cs ≡ grade bs cs))
      by (inl e) p = let d = eqb-true (grade bs cs) 8 e in inl (d, as_beneath d)
      by (inr e) (inl p) = inr (inr (past_eight (eqb-false (grade bs cs) 8 e) ∙ ap (λ v. cond v (grade bs cs) 9) p))
      by (inr e) (inr p) = inr (inl (past_eight (eqb-false (grade bs cs) 8 e) ∙ ap (λ v. cond v (grade bs cs) 9) p))

pub fence_in_words : FenceInWords
fence_in_words sig grade bs cs s t p q =
    let to : is_proper bs cs ≡ true → ProperPair s t = λ h. proper_sound sig s t p.sorted q.sorted (ap₂ is_proper p.form q.form ∙ h) in
    let from : ProperPair s t → is_proper bs cs ≡ true = λ h. sym (ap₂ is_proper p.form q.form) ∙ proper_complete sig s t p.sorted q.sorted h in
    record {
      malformed = as_beneath grade bs cs;
      improper = λ n m. past_eight grade bs cs n ∙ ap (λ v. cond v (grade bs cs) 9) (not_true (λ h. m (to h)));
      beneath = λ n m. past_eight grade bs cs n ∙ ap (λ v. cond v (grade bs cs) 9) (from m);
    }
  where
    not_true : (is_proper bs cs ≡ true → ⊥) → is_proper bs cs ≡ false
    not_true n = by (cases_Bool (is_proper bs cs))
      where
        by : (is_proper bs cs ≡ true) ⊎ (is_proper bs cs ≡ false) → is_proper bs cs ≡ false
        by (inl e) = absurd (n e)
        by (inr e) = e

-- a pair of grade 0 is proper
pub zero_is_proper : (sig : Arities) (grade : List ℕ → List ℕ → ℕ) (bs cs : List ℕ) (s t : Term) → Reads sig 4 bs s → Reads sig 4 cs t → fence_grade grade bs cs ≡ 0 → ProperPair s t
zero_is_proper sig grade bs cs s t p q e = by (cases_Bool (is_proper bs cs)) (cases_Bool (eqb (grade bs cs) 8))
  where
    by : (is_proper bs cs ≡ true) ⊎ (is_proper bs cs ≡ false) → (eqb (grade bs cs) 8 ≡ true) ⊎ (eqb (grade bs cs) 8 ≡ false) → ProperPair s t
    by (inl h) k = proper_sound sig s t p.sorted q.sorted (ap₂ is_proper p.form q.form ∙ h)
    by (inr h) (inl k) = absurd (omega (arith, as_beneath grade bs cs (eqb-true (grade bs cs) 8 k), e))
    by (inr h) (inr k) = absurd (omega (arith, past_eight grade bs cs (eqb-false (grade bs cs) 8 k) ∙ ap (λ v. cond v (grade bs cs) 9) h, e))

-- ── the laws follow from those beneath ──

module _ (sig : Arities) (grade : List ℕ → List ℕ → ℕ) (over : Term → Term → Type 0) (laws : OrderLaws sig grade over) where
  never_eight : (bs cs : List ℕ) → (grade bs cs ≡ 8 → ⊥) → fence_grade grade bs cs ≡ 8 → ⊥
  never_eight bs cs n e = by (three_ways grade bs cs)
    where
      by : ((grade bs cs ≡ 8) × (fence_grade grade bs cs ≡ 8)) ⊎ ((fence_grade grade bs cs ≡ 9) ⊎ (fence_grade grade bs cs ≡ grade bs cs)) → ⊥
      by (inl d) = n d.0
      by (inr (inl d)) = omega (arith, d, e)
      by (inr (inr d)) = n (sym d ∙ e)

  zero_beneath : (bs cs : List ℕ) → fence_grade grade bs cs ≡ 0 → grade bs cs ≡ 0
  zero_beneath bs cs e = by (three_ways grade bs cs)
    where
      by : ((grade bs cs ≡ 8) × (fence_grade grade bs cs ≡ 8)) ⊎ ((fence_grade grade bs cs ≡ 9) ⊎ (fence_grade grade bs cs ≡ grade bs cs)) → grade bs cs ≡ 0
      by (inl d) = absurd (omega (arith, d.1, e))
      by (inr (inl d)) = absurd (omega (arith, d, e))
      by (inr (inr d)) = sym d ∙ e

  pub fence_keeps_the_laws : OrderLaws sig (fence_grade grade) over
  fence_keeps_the_laws = record {
    malformed = λ bs cs n. as_beneath grade bs cs (laws.malformed bs cs n);
    well_formed = λ bs cs a b. never_eight bs cs (laws.well_formed bs cs a b);
    graded_over = λ bs cs s t p q e. laws.graded_over bs cs s t p q (zero_beneath bs cs e);
    reduction = laws.reduction;
  }
