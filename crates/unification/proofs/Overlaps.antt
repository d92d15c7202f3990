-- The sides of two rules in the codes, their instances, and the critical pair.
use Rattle.std.proofs.Common.{◌≡◌, ℕ, suc, ◌+◌, ◌-◌, ◌<◌, ◌≤◌, Bool, true, false, cond, eqb, ◌⊎◌, Option, Some, None, MatchOption, ok_or, Result, Ok, Err, List, [], ◌∷◌, ◌++◌, length, get_or, take, drop, sym, refl, ap, ◌∙◌, subst, ap₂, inl, inr, append_assoc, append-nil, arith, length-append}
use borrow.Author.Tests.{both_ways}
use Rattle.std.proofs.lemmas.List.{take_at, drop_at, drop_all}
use Rattle.terms.specs.Term.{Kind, one, Tree, var, node, nil, cons, Term, Rule, Subst, sub, Occurs, size}
use Rattle.terms.specs.Prefix.{Arities, WellSorted, prefix, expand, image}
use Rattle.terms.specs.Place.{Context, hole, under, head, tail, plug, place, part, replace, PartAt}
use Rattle.terms.proofs.Reading.{size_pos, prefix_length, prefix_sub, expand_append}
use Rattle.terms.proofs.Places.{part_at, parts_agree_with_contexts, prefix_plug, before_length, bytes_before, bytes_behind}
use Rattle.rewriting.specs.Unify.{IsMgu, distinct, is_in, seen, index, renumbering}
use Rattle.rewriting.proofs.Substitution.{sub_factor, occurs_plug}
use Rattle.rewriting.proofs.Unification.{occurs_sub}
use Rattle.rewriting.proofs.Numbering.{seen_has}
use Rattle.rewriting.proofs.Sorted.{sorted_sub, sorted_plug}
use Rattle.unification.specs.declared.critical.CriticalPair.{CriticalPair}
use Rattle.unification.specs.Standing.{Stands, IsForest, Ends}
use Rattle.unification.specs.Classes.{Unified}
use Rattle.unification.specs.Writing.{written, spliced}
use Rattle.unification.specs.Laying.{sides_of, Sides}
use Rattle.unification.specs.Numbering.{seen_among, numbered}
use Rattle.unification.specs.Written.{bytes_of}
use Rattle.unification.specs.declared.critical.NoPair.{NoPair}
use Rattle.unification.specs.declared.critical.NoPair.TheVariants.{Malformed, Apart, TooLong}
use Rattle.unification.specs.Asked.{Asked, rule_of}
use Rattle.unification.specs.Critical.{NoNewVariable, IsCriticalPair, IsTooLong, IsWritten, OfRules, Answer}
use Rattle.unification.proofs.Few.{few_codes}
use Rattle.unification.proofs.StandingFacts.{stands_hole, stands_head, stands_tail}
use Rattle.unification.proofs.Triangular.{sorted_between}
use Rattle.unification.proofs.Writes.{written_term}
use Rattle.unification.proofs.LaidSides.{prefix_low}
use Rattle.unification.proofs.Renumbering.{seen_prefix}

-- ── sizes of instances ──

-- an instance is at least as large
size_grows : {k : Kind} (δ : Subst) (t : Tree k) → size t ≤ size (sub δ t)
size_grows δ (var x) = size_pos (δ x)
size_grows δ (node f ts) = let h = size_grows δ ts in omega arith
size_grows δ nil = omega arith
size_grows δ (cons t ts) = let a = size_grows δ t in let b = size_grows δ ts in omega arith

-- a renumbered term is as large
size_numbered : {k : Kind} (xs : List ℕ) (t : Tree k) → size (sub (numbered xs) t) ≡ size t
size_numbered xs (var x) = refl
size_numbered xs (node f ts) = ap (λ n. 1 + n) (size_numbered xs ts)
size_numbered xs nil = refl
size_numbered xs (cons t ts) = ap₂ (λ m n. m + n) (size_numbered xs t) (size_numbered xs ts)

-- the instance by one most general unifier is at most as large as that by another
mgu_at_most : (μ ν : Subst) (s t u : Term) → IsMgu μ s t → IsMgu ν s t → size (sub μ u) ≤ size (sub ν u)
mgu_at_most μ ν s t u a b =
    let f = a.general ν b.unifies in
    subst (λ z. size (sub μ u) ≤ size z) (sym (sub_factor u ν f.0 μ (λ x o. f.1 x))) (size_grows f.0 (sub μ u))

module _ (first second : Rule) (p : ℕ) (μ : Subst) (mgu : IsMgu μ (part first.left p) (distinct second.left)) where
  at_most : (peak outer inner : Term) (c : IsCriticalPair first second p peak outer inner) (u v : Term) → v ≡ sub (renumbering (sub c.μ first.left)) (sub c.μ u) → 255 < size (sub μ u) → 255 < size v
  at_most peak outer inner c u v e h =
      let n = mgu_at_most μ c.μ (part first.left p) (distinct second.left) u mgu c.mgu in
      let m = ap size e ∙ size_numbered (seen [] (sub c.μ first.left)) (sub c.μ u) in
      omega arith

  pub long_peak : 255 < size (sub μ first.left) → IsTooLong first second p
  long_peak h = record { μ = μ; mgu = mgu; long = λ peak outer inner c. inl (at_most peak outer inner c first.left peak c.peak_is h) }

  pub long_outer : 255 < size (sub μ first.right) → IsTooLong first second p
  long_outer h = record { μ = μ; mgu = mgu; long = λ peak outer inner c. inr (inl (at_most peak outer inner c first.right outer c.outer_is h)) }

  pub long_inner : 255 < size (sub μ (replace first.left p (distinct second.right))) → IsTooLong first second p
  long_inner h = record { μ = μ; mgu = mgu; long = λ peak outer inner c. inr (inr (at_most peak outer inner c (replace first.left p (distinct second.right)) inner c.inner_is h)) }

-- ── a part replaced, byte by byte ──

module _ (sig : Arities) (μ : Subst) (C : Context one) (q u : Term) (rest g : List ℕ) (form : g ≡ prefix (plug C q) ++ rest) where
  shape : g ≡ bytes_before C ++ (prefix q ++ (bytes_behind C ++ rest))
  shape = form ∙ ap (λ w. w ++ rest) (prefix_plug C q) ∙ simp append_assoc

  before_part : take (place C - 0) g ≡ bytes_before C
  before_part =
      let n : place C - 0 ≡ place C = omega arith in
      ap₂ take n shape ∙ take_at (bytes_before C) (prefix q ++ (bytes_behind C ++ rest)) (place C) (before_length C)

  behind_part : take (size (plug C q) - (place C + size q)) (drop (place C + size q) g) ≡ bytes_behind C
  behind_part =
      ap (take (size (plug C q) - (place C + size q)))
      (ap (drop (place C + size q)) (shape ∙ sym (append_assoc (bytes_before C) (prefix q) (bytes_behind C ++ rest)))
      ∙ drop_at (bytes_before C ++ prefix q) (bytes_behind C ++ rest) (place C + size q) (omega (arith, length-append (bytes_before C) (prefix q), before_length C, prefix_length q)))
      ∙ take_at (bytes_behind C) rest (size (plug C q) - (place C + size q)) long
    where
      long : length (bytes_behind C) ≡ size (plug C q) - (place C + size q)
      long =
          omega (arith, prefix_length (plug C q), ap length (prefix_plug C q), length-append (bytes_before C) (prefix q ++ bytes_behind C), length-append (prefix q) (bytes_behind C), before_length C, prefix_length q)

  pub part_replaced : WellSorted sig 8 (plug C u) → WellSorted sig 8 u → expand (image μ) (take (place C - 0) g) ++ (prefix (sub μ u) ++ expand (image μ) (take (size (plug C q) - (place C + size q)) (drop (place C + size q) g))) ≡ prefix (sub μ (plug C u))
  part_replaced w v =
      ap₂ (λ f l. expand (image μ) f ++ (prefix (sub μ u) ++ expand (image μ) l)) before_part behind_part
      ∙ ap (λ m. expand (image μ) (bytes_before C) ++ (m ++ expand (image μ) (bytes_behind C))) (prefix_sub sig 8 μ u v)
      ∙ ap (λ m. expand (image μ) (bytes_before C) ++ m) (sym (expand_append (image μ) (prefix u) (bytes_behind C)))
      ∙ sym (expand_append (image μ) (bytes_before C) (prefix u ++ bytes_behind C))
      ∙ ap (expand (image μ)) (sym (prefix_plug C u))
      ∙ sym (prefix_sub sig 8 μ (plug C u) w)

-- a part ends inside of the whole
part_inside : (C : Context one) (q : Term) → place C + size q ≤ size (plug C q)
part_inside C q =
    omega (arith, prefix_length (plug C q), ap length (prefix_plug C q), length-append (bytes_before C) (prefix q ++ bytes_behind C), length-append (prefix q) (bytes_behind C), before_length C, prefix_length q)

-- ── renumbering ──

-- the variables seen among the codes of t are those of t
order_is : (sig : Arities) (t : Term) (vs ts : List ℕ) → WellSorted sig 8 t → vs ≡ seen_among [] ts → ts ≡ prefix t → vs ≡ seen [] t
order_is sig t vs ts w e f = e ∙ ap (seen_among []) (f ∙ sym (append-nil (prefix t))) ∙ seen_prefix sig 8 t [] [] w

-- the codes of u renumbered by the variables seen among the codes of t
renumbered_is : (sig : Arities) (t u : Term) (vs ts us : List ℕ) → WellSorted sig 8 t → WellSorted sig 8 u → vs ≡ seen_among [] ts → ts ≡ prefix t → us ≡ prefix u → expand (image (numbered vs)) us ≡ prefix (sub (renumbering t) u)
renumbered_is sig t u vs ts us w v e f h =
    ap₂ (λ xs bs. expand (image (numbered xs)) bs) (order_is sig t vs ts w e f) h ∙ sym (prefix_sub sig 8 (renumbering t) u v)

-- ── the variables of instances ──

index_below : (x : ℕ) (xs : List ℕ) → is_in x xs ≡ true → index x xs < length xs
index_below x [] e = absurd (both_ways false refl e)
index_below x (y ∷ ys) e = go (eqb x y) e (index_below x ys)
  where
    go : (b : Bool) → cond b true (is_in x ys) ≡ true → (is_in x ys ≡ true → index x ys < length ys) → cond b 0 (suc (index x ys)) < suc (length ys)
    go true e h = omega arith
    go false e h = let i = h e in omega arith

-- a term renumbered by a list of at most eight variables that has all of its own
numbered_sorted : (sig : Arities) (vs : List ℕ) (t : Term) → length vs ≤ 8 → WellSorted sig 8 t → ((x : ℕ) → Occurs x t → is_in x vs ≡ true) → WellSorted sig 8 (sub (numbered vs) t)
numbered_sorted sig vs t few w h = sorted_sub sig 8 8 (numbered vs) t w (λ x o. let i = index_below x vs (h x o) in (omega arith, omega arith))

occurs_into : {k : Kind} (μ : Subst) (t : Tree k) (x z : ℕ) → Occurs x t → Occurs z (μ x) → Occurs z (sub μ t)
occurs_into μ (var y) x z o i = subst (λ v. Occurs z (μ v)) o i
occurs_into μ (node f ts) x z o i = occurs_into μ ts x z o i
occurs_into μ nil x z o i = absurd o
occurs_into μ (cons t ts) x z (inl o) i = inl (occurs_into μ t x z o i)
occurs_into μ (cons t ts) x z (inr o) i = inr (occurs_into μ ts x z o i)

-- if the variables of u are among those of t, so are those of the instances
occurs_among : (μ : Subst) (t u : Term) → ((x : ℕ) → Occurs x u → Occurs x t) → (z : ℕ) → Occurs z (sub μ u) → Occurs z (sub μ t)
occurs_among μ t u h z o = let y = occurs_sub μ u z o in occurs_into μ t y.0 z (h y.0 y.1) y.2

-- a variable of a term with another one put into a hole is one of that, or stands around the hole
occurs_around : {k : Kind} (C : Context k) (u : Term) (x : ℕ) → Occurs x (plug C u) → Occurs x u ⊎ ((q : Term) → Occurs x (plug C q))
occurs_around hole u x o = inl o
occurs_around (under f C) u x o = occurs_around C u x o
occurs_around (head C ts) u x (inl o) = elim (occurs_around C u x o) [ inl i ↦ inl i | inr i ↦ inr (λ q. inl (i q)) ]
occurs_around (head C ts) u x (inr o) = inr (λ q. inr o)
occurs_around (tail t C) u x (inl o) = inr (λ q. inl o)
occurs_around (tail t C) u x (inr o) = elim (occurs_around C u x o) [ inl i ↦ inl i | inr i ↦ inr (λ q. inr (i q)) ]

-- the second rule's variables under a unifier stand in the part that it unifies with
module _ (C : Context one) (q : Term) (second : Rule) (μ : Subst) (unifies : sub μ q ≡ sub μ (distinct second.left)) (known : NoNewVariable second) where
  occurs_second : (y z : ℕ) → Occurs y (distinct second.right) → Occurs z (μ y) → Occurs z (sub μ (plug C q))
  occurs_second y z o i =
      let r = occurs_sub (λ x. var (x + 4)) second.right y o in
      let l = occurs_into (λ x. var (x + 4)) second.left r.0 y (known r.0 r.1) r.2 in
      let h : Occurs z (sub μ q) = subst (Occurs z) (sym unifies) (occurs_into μ (distinct second.left) y z l i) in
      occurs_among μ (plug C q) q (occurs_plug C q) z h

  occurs_inner : (z : ℕ) → Occurs z (sub μ (plug C (distinct second.right))) → Occurs z (sub μ (plug C q))
  occurs_inner z o = go (occurs_sub μ (plug C (distinct second.right)) z o)
    where
      go : (y : ℕ) × Occurs y (plug C (distinct second.right)) × Occurs z (μ y) → Occurs z (sub μ (plug C q))
      go y =
          elim (occurs_around C (distinct second.right) y.0 y.1) [
            | inl i ↦ occurs_second y.0 z i y.2
            | inr i ↦ occurs_into μ (plug C q) y.0 z (i q) y.2
          ]

short_term : (bs : List ℕ) (t : Term) → bs ≡ prefix t → length bs ≤ 255 → size t ≤ 255
short_term bs t e h = subst (λ n. n ≤ 255) (ap length e ∙ prefix_length t) h

-- ── where the sides stand ──

module _ (sig : Arities) (g : List ℕ) (x y z : ℕ) (a b : Rule) (s : Sides sig g x y z a b) where
  pub sides_forest : IsForest sig g
  sides_forest = (sides_of a b, s.sorted, s.form)

  all_long : length g ≡ size (sides_of a b)
  all_long = ap length s.form ∙ prefix_length (sides_of a b)

  all_stand : Stands sig g 0 (sides_of a b)
  all_stand =
      record {
        sorted = s.sorted;
        reads = s.form ∙ sym (append-nil (prefix (sides_of a b))) ∙ ap (λ w. prefix (sides_of a b) ++ w) (sym (drop_all (0 + size (sides_of a b)) g (omega (arith, all_long))));
        inside = omega (arith, all_long);
      }

  moved_to : {k : Kind} (i j : ℕ) (u : Tree k) → i ≡ j → Stands sig g i u → Stands sig g j u
  moved_to i j u e h = subst (λ n. Stands sig g n u) e h

  behind_left : Stands sig g x (cons (distinct b.left) (cons a.right (cons (distinct b.right) nil)))
  behind_left = moved_to _ _ _ (omega (arith, s.left_long)) (stands_tail sig g 0 a.left _ all_stand)

  behind_second : Stands sig g y (cons a.right (cons (distinct b.right) nil))
  behind_second = moved_to _ _ _ (sym s.second_long) (stands_tail sig g x (distinct b.left) _ behind_left)

  behind_right : Stands sig g z (cons (distinct b.right) nil)
  behind_right = moved_to _ _ _ (sym s.right_long) (stands_tail sig g y a.right _ behind_second)

  pub left_stands : Stands sig g 0 a.left
  left_stands = stands_head sig g 0 a.left _ all_stand

  pub second_stands : Stands sig g x (distinct b.left)
  second_stands = stands_head sig g x (distinct b.left) _ behind_left

  pub right_stands : Stands sig g y a.right
  right_stands = stands_head sig g y a.right _ behind_second

  pub last_stands : Stands sig g z (distinct b.right)
  last_stands = stands_head sig g z (distinct b.right) _ behind_right

  pub last_long : z + size (distinct b.right) ≡ length g
  last_long = omega (arith, all_long, s.left_long, s.second_long, s.right_long)

  pub sides_ordered : (x ≤ length g) × (y ≤ z) × (z ≤ length g)
  sides_ordered = (omega (arith, all_long, s.left_long), omega (arith, s.right_long), omega (arith, last_long))

  -- the part of the left side at a place
  pub part_stands : (p : ℕ) → p < x → Stands sig g p (part a.left p)
  part_stands p h = go (part_at a.left p (omega (arith, s.left_long)))
    where
      go : PartAt a.left p → Stands sig g p (part a.left p)
      go r =
          let whole : sides_of a b ≡ plug (head r.context (cons (distinct b.left) (cons a.right (cons (distinct b.right) nil)))) r.term = ap (λ t. cons t (cons (distinct b.left) (cons a.right (cons (distinct b.right) nil)))) r.splits in
          subst (Stands sig g p) (sym (parts_agree_with_contexts a.left p r).0)
          (moved_to (place r.context) p r.term r.at (stands_hole sig g (head r.context (cons (distinct b.left) (cons a.right (cons (distinct b.right) nil)))) r.term (subst (WellSorted sig 8) whole s.sorted) (s.form ∙ ap prefix whole)))

  -- ── their instances ──

  module _ (μ : Subst) where
    pub left_written : written μ g 0 x ≡ prefix (sub μ a.left)
    left_written = ap (written μ g 0) (omega (arith, s.left_long)) ∙ written_term sig g μ 0 a.left left_stands

    pub right_written : written μ g y z ≡ prefix (sub μ a.right)
    right_written = ap (written μ g y) s.right_long ∙ written_term sig g μ y a.right right_stands

    last_written : written μ g z (length g) ≡ prefix (sub μ (distinct b.right))
    last_written = ap (written μ g z) (sym last_long) ∙ written_term sig g μ z (distinct b.right) last_stands

    pub inner_written : (p e : ℕ) → p < x → e ≡ p + size (part a.left p) → spliced μ g p z e x ≡ prefix (sub μ (replace a.left p (distinct b.right)))
    inner_written p e h stop = go (part_at a.left p (omega (arith, s.left_long)))
      where
        go : PartAt a.left p → spliced μ g p z e x ≡ prefix (sub μ (replace a.left p (distinct b.right)))
        go r =
            let C = r.context in
            let q = r.term in
            let u = distinct b.right in
            let is : part a.left p ≡ q = (parts_agree_with_contexts a.left p r).0 in
            let long : x ≡ size (plug C q) = s.left_long ∙ ap size r.splits in
            let stop' : e ≡ place C + size q = stop ∙ ap₂ (λ m n. m + n) (sym r.at) (ap size is) in
            let form : g ≡ prefix (plug C q) ++ prefix (cons (distinct b.left) (cons a.right (cons u nil))) = s.form ∙ ap (λ t. prefix t ++ prefix (cons (distinct b.left) (cons a.right (cons u nil)))) r.splits in
            let w : WellSorted sig 8 u = last_stands.sorted in
            ap (λ m. expand (image μ) (take (p - 0) g) ++ (m ++ expand (image μ) (take (x - e) (drop e g)))) last_written
            ∙ ap (λ n. expand (image μ) (take (n - 0) g) ++ (prefix (sub μ u) ++ expand (image μ) (take (x - e) (drop e g)))) (sym r.at)
            ∙ ap₂ (λ m n. expand (image μ) (take (place C - 0) g) ++ (prefix (sub μ u) ++ expand (image μ) (take (m - n) (drop n g)))) long stop'
            ∙ part_replaced sig μ C q u (prefix (cons (distinct b.left) (cons a.right (cons u nil)))) g form (sorted_plug sig 8 C q u (subst (WellSorted sig 8) r.splits left_stands.sorted) w) w
            ∙ ap (λ t. prefix (sub μ t)) (sym ((parts_agree_with_contexts a.left p r).1 u))

  -- ── the critical pair ──

  pub part_end : (p : ℕ) (end : List ℕ) → Ends sig g end → p < x → (get_or end p 0 ≡ p + size (part a.left p)) × (get_or end p 0 ≤ x)
  part_end p end ends h = go (part_at a.left p (omega (arith, s.left_long)))
    where
      stop : get_or end p 0 ≡ p + size (part a.left p)
      stop = ends p (part a.left p) (part_stands p h)

      go : PartAt a.left p → (get_or end p 0 ≡ p + size (part a.left p)) × (get_or end p 0 ≤ x)
      go r =
          let is = ap size (parts_agree_with_contexts a.left p r).0 in
          let whole = ap size r.splits in
          (stop, omega (arith, stop, s.left_long, part_inside r.context r.term, r.at))

  module _ (rep rank : List ℕ) (p : ℕ) (h : p < x) (unified : Unified sig g rep rank p x) where
    pub sides_mgu : IsMgu unified.μ (part a.left p) (distinct b.left)
    sides_mgu = unified.mgu (part a.left p) (distinct b.left) (part_stands p h) second_stands

    instance_sorted : (t : Term) → WellSorted sig 8 t → WellSorted sig 8 (sub unified.μ t)
    instance_sorted t w = sorted_sub sig 8 8 unified.μ t w (λ v o. let k = sorted_between sig 8 t v w o in unified.sorted v k.0 k.1)

    replaced_sorted : WellSorted sig 8 (replace a.left p (distinct b.right))
    replaced_sorted = go (part_at a.left p (omega (arith, s.left_long)))
      where
        go : PartAt a.left p → WellSorted sig 8 (replace a.left p (distinct b.right))
        go r =
            subst (WellSorted sig 8) (sym ((parts_agree_with_contexts a.left p r).1 (distinct b.right)))
            (sorted_plug sig 8 r.context r.term (distinct b.right) (subst (WellSorted sig 8) r.splits left_stands.sorted) last_stands.sorted)

    -- what the second rule puts into the left side has only variables of the peak
    inner_known : NoNewVariable b → (v : ℕ) → Occurs v (sub unified.μ (replace a.left p (distinct b.right))) → Occurs v (sub unified.μ a.left)
    inner_known known v o = go (part_at a.left p (omega (arith, s.left_long)))
      where
        go : PartAt a.left p → Occurs v (sub unified.μ a.left)
        go r =
            let same = parts_agree_with_contexts a.left p r in
            subst (λ t. Occurs v (sub unified.μ t)) (sym r.splits)
            (occurs_inner r.context r.term b unified.μ (ap (sub unified.μ) (sym same.0) ∙ sides_mgu.unifies) known v
            (subst (λ t. Occurs v (sub unified.μ t)) (same.1 (distinct b.right)) o))

    pub peak_low : (bs : List ℕ) → bs ≡ written unified.μ g 0 x → (k : ℕ) → k < length bs → get_or bs k 0 < 136
    peak_low bs e =
        subst (λ w. (k : ℕ) → k < length w → get_or w k 0 < 136) (sym (e ∙ left_written unified.μ))
        (prefix_low sig 8 (sub unified.μ a.left) (instance_sorted a.left left_stands.sorted))

    pub too_long_peak : 255 < length (written unified.μ g 0 x) → IsTooLong a b p
    too_long_peak l = long_peak a b p unified.μ sides_mgu (omega (arith, ap length (left_written unified.μ), prefix_length (sub unified.μ a.left)))

    pub too_long_outer : 255 < length (written unified.μ g y z) → IsTooLong a b p
    too_long_outer l = long_outer a b p unified.μ sides_mgu (omega (arith, ap length (right_written unified.μ), prefix_length (sub unified.μ a.right)))

    pub too_long_inner : (end : List ℕ) → Ends sig g end → 255 < length (spliced unified.μ g p z (get_or end p 0) x) → IsTooLong a b p
    too_long_inner end ends l =
        long_inner a b p unified.μ sides_mgu
        (omega (arith, ap length (inner_written unified.μ p (get_or end p 0) h (part_end p end ends h).0), prefix_length (sub unified.μ (replace a.left p (distinct b.right)))))

    pub pair_written : (end vs ps os is : List ℕ) (pair : CriticalPair) → length vs ≤ 8 → Ends sig g end → ps ≡ written unified.μ g 0 x → os ≡ written unified.μ g y z → is ≡ spliced unified.μ g p z (get_or end p 0) x → vs ≡ seen_among [] ps → bytes_of pair.peak ≡ expand (image (numbered vs)) ps → bytes_of pair.outer ≡ expand (image (numbered vs)) os → bytes_of pair.inner ≡ expand (image (numbered vs)) is → IsWritten sig a b p pair
    pair_written end vs ps os is pair few ends e₁ e₂ e₃ v b₁ b₂ b₃ =
        let μ = unified.μ in
        let peak = sub μ a.left in
        let outer = sub μ a.right in
        let inner = sub μ (replace a.left p (distinct b.right)) in
        let w = instance_sorted a.left left_stands.sorted in
        let w' = instance_sorted a.right right_stands.sorted in
        let w'' = instance_sorted (replace a.left p (distinct b.right)) replaced_sorted in
        let f : ps ≡ prefix peak = e₁ ∙ left_written μ in
        let eight : length (seen [] peak) ≤ 8 = subst (λ xs. length xs ≤ 8) (order_is sig peak vs ps w v f) few in
        let t₁ : bytes_of pair.peak ≡ prefix (sub (renumbering peak) peak) = b₁ ∙ renumbered_is sig peak peak vs ps ps w w v f f in
        let t₂ : bytes_of pair.outer ≡ prefix (sub (renumbering peak) outer) = b₂ ∙ renumbered_is sig peak outer vs ps os w w' v f (e₂ ∙ right_written μ) in
        let t₃ : bytes_of pair.inner ≡ prefix (sub (renumbering peak) inner) = b₃ ∙ renumbered_is sig peak inner vs ps is w w'' v f (e₃ ∙ inner_written μ p (get_or end p 0) h (part_end p end ends h).0) in
        record {
          peak = sub (renumbering peak) peak;
          outer = sub (renumbering peak) outer;
          inner = sub (renumbering peak) inner;
          is_pair = record { μ = μ; mgu = sides_mgu; peak_is = refl; outer_is = refl; inner_is = refl };
          peak_bytes = t₁;
          outer_bytes = t₂;
          inner_bytes = t₃;
          short = (short_term _ (sub (renumbering peak) peak) t₁ (few_codes pair.peak), short_term _ (sub (renumbering peak) outer) t₂ (few_codes pair.outer), short_term _ (sub (renumbering peak) inner) t₃ (few_codes pair.inner));
          peak_sorted = numbered_sorted sig (seen [] peak) peak eight w (λ z o. seen_has z [] peak o);
          outer_sorted = λ known. numbered_sorted sig (seen [] peak) outer eight w' (λ z o. seen_has z [] peak (occurs_among μ a.left a.right known z o));
          inner_sorted = λ known. numbered_sorted sig (seen [] peak) inner eight w'' (λ z o. seen_has z [] peak (inner_known known z o));
        }

-- the answer for rules and a place of a symbol is the answer for their bytes
pub answered : (sig : Arities) (l r : List ℕ) (p : ℕ) (l' r' : List ℕ) (answer : Result CriticalPair NoPair) → Asked sig l r p l' r' → OfRules sig (rule_of sig l r) (rule_of sig l' r') p answer → Answer sig l r p l' r' answer
answered sig l r p l' r' (Err Malformed) a o = absurd o
answered sig l r p l' r' (Err Apart) a o = (a, o)
answered sig l r p l' r' (Err TooLong) a o = (a, o)
answered sig l r p l' r' (Ok pair) a o = (a, o)

-- a critical pair, or none since a term of it is too long, is an answer for the rules
pub of_pair : (sig : Arities) (a b : Rule) (p : ℕ) (pair : Option CriticalPair) → MatchOption pair (IsTooLong a b p) (IsWritten sig a b p) → OfRules sig a b p (ok_or pair TooLong)
of_pair sig a b p (Some pair) w = w
of_pair sig a b p None w = w

-- the sides by another name of the codes
pub sides_there : (sig : Arities) (g h : List ℕ) (x y z : ℕ) (a b : Rule) → h ≡ g → Sides sig g x y z a b → Sides sig h x y z a b
sides_there sig g h x y z a b e s = subst (λ w. Sides sig w x y z a b) (sym e) s

pub sides_as : (sig : Arities) (g h : List ℕ) (x y z : ℕ) → h ≡ g → (a : Rule) × (b : Rule) × Sides sig g x y z a b → (a : Rule) × (b : Rule) × Sides sig h x y z a b
sides_as sig g h x y z e s = (s.0, s.1, sides_there sig g h x y z s.0 s.1 e s.2)
