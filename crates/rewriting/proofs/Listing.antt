-- The overlaps of a list of rules make one ascending list.
use Rattle.std.proofs.Common.{◌≡◌, ℕ, zero, suc, ◌<◌, ◌⊎◌, List, [], ◌∷◌, ◌++◌, length, sym, refl, ap, ◌∙◌, subst, ap₂, subst₂, inl, inr, arith}
use native.Mathlib.Decide.{dec_lt, ℕ_discrete}
use Rattle.terms.specs.Term.{one, var, node, Term, Rule, rule_at, Subst, IsNode, size}
use Rattle.terms.specs.Place.{part}
use Rattle.rewriting.specs.Unify.{IsMgu, NotUnifiable, distinct, Overlap, Triple, Before, AllBehind, Ascending, Listed, OverlapList}
use Rattle.rewriting.proofs.Unification.{unification}

-- ── is it an overlap? ──

node? : (t : Term) → Dec (IsNode t)
node? (var x) = no (λ h. h)
node? (node f ts) = yes tt

zero? : (p : ℕ) → Dec (p ≡ 0)
zero? p = ℕ_discrete p 0

pub overlap? : (rs : List Rule) (i p j : ℕ) → i < length rs → j < length rs → p < size (rule_at rs i).left → Overlap rs i p j ⊎ (Overlap rs i p j → ⊥)
overlap? rs i p j hi hj hp = go (node? (part (rule_at rs i).left p)) (zero? p) (dec_lt i j) (unification one (part (rule_at rs i).left p) (distinct (rule_at rs j).left))
  where
    go : Dec (IsNode (part (rule_at rs i).left p)) → Dec (p ≡ 0) → Dec (i < j) → ((μ : Subst) × IsMgu μ (part (rule_at rs i).left p) (distinct (rule_at rs j).left)) ⊎ NotUnifiable (part (rule_at rs i).left p) (distinct (rule_at rs j).left) → Overlap rs i p j ⊎ (Overlap rs i p j → ⊥)
    go (no n) z l u = inr (λ o. n o.no_variable)
    go (yes n) (yes z) (no m) u = inr (λ o. m (o.proper z))
    go (yes n) (yes z) (yes l) (inr u) = inr (λ o. u o.unifier o.unifies)
    go (yes n) (no z) l (inr u) = inr (λ o. u o.unifier o.unifies)
    go (yes n) (yes z) (yes l) (inl m) = inl (record { first_rule = hi; second_rule = hj; inside = hp; no_variable = n; unifier = m.0; unifies = m.1.unifies; proper = λ e. l })
    go (yes n) (no z) l (inl m) = inl (record { first_rule = hi; second_rule = hj; inside = hp; no_variable = n; unifier = m.0; unifies = m.1.unifies; proper = λ e. absurd (z e) })

-- ── lists that follow each other ──

listed_append : (a : Triple) (xs ys : List Triple) → Listed a (xs ++ ys) → Listed a xs ⊎ Listed a ys
listed_append a [] ys l = inr l
listed_append a (x ∷ xs) ys (inl e) = inl (inl e)
listed_append a (x ∷ xs) ys (inr l) = go (listed_append a xs ys l)
  where
    go : Listed a xs ⊎ Listed a ys → Listed a (x ∷ xs) ⊎ Listed a ys
    go (inl h) = inl (inr h)
    go (inr h) = inr h

listed_front : (a : Triple) (xs ys : List Triple) → Listed a xs → Listed a (xs ++ ys)
listed_front a (x ∷ xs) ys (inl e) = inl e
listed_front a (x ∷ xs) ys (inr l) = inr (listed_front a xs ys l)
listed_front a [] ys l = absurd l

listed_back : (a : Triple) (xs ys : List Triple) → Listed a ys → Listed a (xs ++ ys)
listed_back a [] ys l = l
listed_back a (x ∷ xs) ys l = inr (listed_back a xs ys l)

behind_append : (a : Triple) (xs ys : List Triple) → AllBehind a xs → ((b : Triple) → Listed b ys → Before a b) → AllBehind a (xs ++ ys)
behind_append a [] [] h f = tt
behind_append a [] (y ∷ ys) h f = (f y (inl refl), behind_append a [] ys tt (λ b l. f b (inr l)))
behind_append a (x ∷ xs) ys h f = (h.0, behind_append a xs ys h.1 f)

ascending_append : (xs ys : List Triple) → Ascending xs → Ascending ys → ((a b : Triple) → Listed a xs → Listed b ys → Before a b) → Ascending (xs ++ ys)
ascending_append [] ys s r f = r
ascending_append (x ∷ xs) ys s r f = (behind_append x xs ys s.0 (λ b l. f x b (inl refl) l), ascending_append xs ys s.1 r (λ a b l m. f a b (inr l) m))

-- ── rows of triples, one for each number ──

-- an ascending list of exactly the triples of which P holds
pub record Row (P : Triple → Type 0) : Type 0 where
  pub list : List Triple
  pub ascending : Ascending list
  pub listed : (a : Triple) → P a → Listed a list
  pub only : (a : Triple) → Listed a list → P a

-- a row for each number below n, one behind the other
rows : (P : ℕ → Triple → Type 0) (n : ℕ) → ((m : ℕ) → m < n → Row (P m)) → ((m k : ℕ) (a b : Triple) → m < k → P m a → P k b → Before a b) → Row (λ a. (m : ℕ) × (m < n) × P m a)
rows P zero each f = record { list = []; ascending = tt; listed = λ a x. (let h = x.1 in omega arith); only = λ a l. absurd l }
rows P (suc n) each f =
    go (rows P n (λ m h. each m (omega arith)) f) (each n (omega arith))
  where
    go : Row (λ a. (m : ℕ) × (m < n) × P m a) → Row (P n) → Row (λ a. (m : ℕ) × (m < suc n) × P m a)
    go r q = record {
      list = r.list ++ q.list;
      ascending = ascending_append r.list q.list r.ascending q.ascending (λ a b l m. let x = r.only a l in f x.0 n a b x.1 x.2 (q.only b m));
      listed = λ a x. there a x (dec_lt x.0 n);
      only = λ a l. back a (listed_append a r.list q.list l);
    }
      where
        there : (a : Triple) → (x : (m : ℕ) × (m < suc n) × P m a) → Dec (x.0 < n) → Listed a (r.list ++ q.list)
        there a x (yes h) = listed_front a r.list q.list (r.listed a (x.0, h, x.2))
        there a x (no h) = let b = x.1 in let e : x.0 ≡ n = omega arith in listed_back a r.list q.list (q.listed a (subst (λ m. P m a) e x.2))

        back : (a : Triple) → Listed a r.list ⊎ Listed a q.list → (m : ℕ) × (m < suc n) × P m a
        back a (inl l) = let x = r.only a l in (x.0, (let h = x.1 in omega arith), x.2)
        back a (inr l) = (n, omega arith, q.only a l)

-- ── the list of the overlaps ──

module _ (rs : List Rule) where
  abbrev triple : ℕ → ℕ → ℕ → Triple
  triple i p j = record { i = i; p = p; j = j }

  abbrev At : ℕ → ℕ → ℕ → Triple → Type 0
  At i p j a = (a ≡ triple i p j) × Overlap rs a.i a.p a.j

  one_triple : (i p j : ℕ) → i < length rs → p < size (rule_at rs i).left → j < length rs → Row (At i p j)
  one_triple i p j hi hp hj = go (overlap? rs i p j hi hj hp)
    where
      go : Overlap rs i p j ⊎ (Overlap rs i p j → ⊥) → Row (At i p j)
      go (inl o) = record { list = triple i p j ∷ []; ascending = (tt, tt); listed = λ a x. inl x.0; only = λ a l. only a l }
        where
          only : (a : Triple) → Listed a (triple i p j ∷ []) → At i p j a
          only a (inl e) = (e, subst (λ b. Overlap rs b.i b.p b.j) (sym e) o)
          only a (inr l) = absurd l
      go (inr n) = record { list = []; ascending = tt; listed = λ a x. n (subst (λ b. Overlap rs b.i b.p b.j) x.0 x.1); only = λ a l. absurd l }

  abbrev AtPlace : ℕ → ℕ → Triple → Type 0
  AtPlace i p a = (j : ℕ) × (j < length rs) × At i p j a

  at_place : (i p : ℕ) → i < length rs → p < size (rule_at rs i).left → Row (AtPlace i p)
  at_place i p hi hp =
      rows (At i p) (length rs) (λ j hj. one_triple i p j hi hp hj)
      (λ m k a b l x y. inr (ap (λ t. t.i) x.0 ∙ sym (ap (λ t. t.i) y.0), inr (ap (λ t. t.p) x.0 ∙ sym (ap (λ t. t.p) y.0), omega (arith, ap (λ t. t.j) x.0, ap (λ t. t.j) y.0))))

  abbrev OfRule : ℕ → Triple → Type 0
  OfRule i a = (p : ℕ) × (p < size (rule_at rs i).left) × AtPlace i p a

  of_rule : (i : ℕ) → i < length rs → Row (OfRule i)
  of_rule i hi =
      rows (AtPlace i) (size (rule_at rs i).left) (λ p hp. at_place i p hi hp)
      (λ m k a b l x y. inr (ap (λ t. t.i) x.2.0 ∙ sym (ap (λ t. t.i) y.2.0), inl (omega (arith, ap (λ t. t.p) x.2.0, ap (λ t. t.p) y.2.0))))

  all_overlaps : Row (λ a. (i : ℕ) × (i < length rs) × OfRule i a)
  all_overlaps =
      rows OfRule (length rs) of_rule
      (λ m k a b l x y. inl (omega (arith, ap (λ t. t.i) x.2.2.0, ap (λ t. t.i) y.2.2.0)))

  pub overlap_list : (ts : List Triple) × OverlapList rs ts
  overlap_list =
      let r = all_overlaps in (
        r.list,
        record {
          ascending = r.ascending;
          listed = λ a o. r.listed a (a.i, o.first_rule, (a.p, o.inside, (a.j, o.second_rule, (refl, o))));
          overlaps = λ a l. let x = r.only a l in x.2.2.2.1;
        },
      )

-- ── there is one such list only ──

not_both : (a b : Triple) → Before a b → Before b a → ⊥
not_both a b (inl x) (inl y) = omega arith
not_both a b (inl x) (inr y) = omega (arith, y.0)
not_both a b (inr x) (inl y) = omega (arith, x.0)
not_both a b (inr x) (inr y) = go x.1 y.1
  where
    go : (a.p < b.p) ⊎ ((a.p ≡ b.p) × (a.j < b.j)) → (b.p < a.p) ⊎ ((b.p ≡ a.p) × (b.j < a.j)) → ⊥
    go (inl u) (inl v) = omega arith
    go (inl u) (inr v) = omega (arith, v.0)
    go (inr u) (inl v) = omega (arith, u.0)
    go (inr u) (inr v) = omega (arith, u.1, v.1)

behind_listed : (a : Triple) (bs : List Triple) → AllBehind a bs → (b : Triple) → Listed b bs → Before a b
behind_listed a (c ∷ bs) h b (inl e) = subst (Before a) (sym e) h.0
behind_listed a (c ∷ bs) h b (inr l) = behind_listed a bs h.1 b l
behind_listed a [] h b l = absurd l

same_list : (xs ys : List Triple) → Ascending xs → Ascending ys → ((a : Triple) → Listed a xs → Listed a ys) → ((a : Triple) → Listed a ys → Listed a xs) → xs ≡ ys
same_list [] [] s r f g = refl
same_list [] (y ∷ ys) s r f g = absurd (g y (inl refl))
same_list (x ∷ xs) [] s r f g = absurd (f x (inl refl))
same_list (x ∷ xs) (y ∷ ys) s r f g =
    let e : x ≡ y = heads (f x (inl refl)) (g y (inl refl)) in
    ap₂ ◌∷◌ e (same_list xs ys s.1 r.1 (λ a l. rest_there a e l (f a (inr l))) (λ a l. rest_back a e l (g a (inr l))))
  where
    heads : Listed x (y ∷ ys) → Listed y (x ∷ xs) → x ≡ y
    heads (inl e) m = e
    heads (inr l) (inl e) = sym e
    heads (inr l) (inr m) = absurd (not_both x y (behind_listed x xs s.0 y m) (behind_listed y ys r.0 x l))

    rest_there : (a : Triple) → x ≡ y → Listed a xs → Listed a (y ∷ ys) → Listed a ys
    rest_there a e l (inl q) = let b = behind_listed x xs s.0 a l in absurd (not_both x a b (subst₂ Before (e ∙ sym q) (q ∙ sym e) b))
    rest_there a e l (inr m) = m

    rest_back : (a : Triple) → x ≡ y → Listed a ys → Listed a (x ∷ xs) → Listed a xs
    rest_back a e l (inl q) = let b = behind_listed y ys r.0 a l in absurd (not_both y a b (subst₂ Before (sym e ∙ sym q) (q ∙ e) b))
    rest_back a e l (inr m) = m

pub one_overlap_list : (rs : List Rule) (xs ys : List Triple) → OverlapList rs xs → OverlapList rs ys → xs ≡ ys
one_overlap_list rs xs ys a b = same_list xs ys a.ascending b.ascending (λ t l. b.listed t (a.overlaps t l)) (λ t l. a.listed t (b.overlaps t l))
