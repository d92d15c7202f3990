-- Walking over the arguments of a term, and over those of two terms side by side.
use Rattle.std.proofs.Common.{◌≡◌, ℕ, ◌+◌, ◌-◌, ◌<◌, ◌≤◌, cond, ◌≢◌, List, length, get_or, drop, set, sym, refl, ap, ◌∙◌, subst, ap₂, add-zero, arith, get_or-set_other, get_or-set_same, le-ltb, lt-ltb}
use native.Mathlib.Decide.{dec_lt}
use Rattle.terms.specs.Term.{var, node, nil, cons, Term, Terms, how_many, Subst, sub, size}
use Rattle.terms.specs.Prefix.{Arities}
use Rattle.unification.specs.Standing.{count, arguments_of, Stands, IsForest, Ends}
use Rattle.unification.specs.Classes.{SameClasses, ClosedAt, Split}
use Rattle.unification.proofs.StandingFacts.{stands_below, stands_one, stands_at, stands_head, stands_tail, stands_arguments, code_var, code_node}

-- from the offset e on, `need` terms are left, which end at `stop`
pub record Left (sig : Arities) (g : List ℕ) (e need stop : ℕ) : Type 0 where
  pub forest : Terms
  pub stands : Stands sig g e forest
  pub counts : how_many forest ≡ need
  pub ends : e + size forest ≡ stop

-- how many arguments a variable and a symbol have
arguments_var : (sig : Arities) (g : List ℕ) (i x : ℕ) → Stands sig g i (var x) → arguments_of sig (get_or g i 0) ≡ 0
arguments_var sig g i x h = ap (arguments_of sig) (code_var sig g i x h) ∙ ap (λ b. cond b (count (sig x)) 0) (le-ltb x 128 h.sorted.0)

arguments_node : (sig : Arities) (g : List ℕ) (i f : ℕ) (ts : Terms) → Stands sig g i (node f ts) → arguments_of sig (get_or g i 0) ≡ how_many ts
arguments_node sig g i f ts h =
    ap (arguments_of sig) (code_node sig g i f ts h) ∙ ap₂ (λ b n. cond b (count n) 0) (lt-ltb f 128 h.sorted.0) h.sorted.1

-- no terms stand behind a code
nothing : (sig : Arities) (g : List ℕ) (i : ℕ) → i ≤ length g → Stands sig g i nil
nothing sig g i h = record { sorted = tt; reads = ap (λ n. drop n g) (sym (add-zero i)); inside = omega arith }

pub left_start : (sig : Arities) (g : List ℕ) (i : ℕ) (t : Term) → Stands sig g i t → Left sig g (i + 1) (arguments_of sig (get_or g i 0)) (i + size t)
left_start sig g i (var x) h =
    record {
      forest = nil;
      stands = nothing sig g (i + 1) (let b = h.inside in omega arith);
      counts = sym (arguments_var sig g i x h);
      ends = omega arith;
    }
left_start sig g i (node f ts) h =
    record {
      forest = ts;
      stands = stands_arguments sig g i f ts h;
      counts = sym (arguments_node sig g i f ts h);
      ends = omega arith;
    }

-- what is known of the first term that is left
pub record Next (sig : Arities) (g : List ℕ) (e need stop : ℕ) : Type 0 where
  pub term : Term
  pub here : Stands sig g e term
  pub rest : Left sig g (e + size term) (need - 1) stop

pub left_next : (sig : Arities) (g : List ℕ) (e need stop : ℕ) → 0 < need → Left sig g e need stop → Next sig g e need stop
left_next sig g e need stop pos l = go l.forest l.stands l.counts l.ends
  where
    go : (ts : Terms) → Stands sig g e ts → how_many ts ≡ need → e + size ts ≡ stop → Next sig g e need stop
    go nil h c n = absurd (omega arith)
    go (cons t ts) h c n =
        record { term = t; here = stands_head sig g e t ts h; rest = record { forest = ts; stands = stands_tail sig g e t ts h; counts = omega arith; ends = omega arith } }

pub left_below : (sig : Arities) (g : List ℕ) (e need stop : ℕ) → 0 < need → Left sig g e need stop → e < length g
left_below sig g e need stop pos l = let n = left_next sig g e need stop pos l in stands_below sig g e n.term n.here

pub left_inside : (sig : Arities) (g : List ℕ) (e need stop : ℕ) → Left sig g e need stop → e ≤ length g
left_inside sig g e need stop l = let a = l.stands.inside in omega arith

pub left_end : (sig : Arities) (g : List ℕ) (e stop : ℕ) → Left sig g e 0 stop → e ≡ stop
left_end sig g e stop l = go l.forest l.counts l.ends
  where
    go : (ts : Terms) → how_many ts ≡ 0 → e + size ts ≡ stop → e ≡ stop
    go nil c n = omega arith
    go (cons t ts) c n = absurd (omega arith)

-- ── the table of ends, filled from the right ──

abbrev pub EndsFrom : Arities → List ℕ → List ℕ → ℕ → Type 0
EndsFrom sig g end i = (j : ℕ) (t : Term) → i ≤ j → Stands sig g j t → get_or end j 0 ≡ j + size t

pub left_need : (sig : Arities) (g : List ℕ) (e m n stop : ℕ) → m ≡ n → Left sig g e m stop → Left sig g e n stop
left_need sig g e m n stop p l = subst (λ z. Left sig g e z stop) p l

pub left_turn : (sig : Arities) (g end : List ℕ) (i e need stop : ℕ) → EndsFrom sig g end (i + 1) → i < e → 0 < need → Left sig g e need stop → (i < get_or end e 0) × Left sig g (get_or end e 0) (need - 1) stop
left_turn sig g end i e need stop f b pos l =
    let n = left_next sig g e need stop pos l in
    let x = f e n.term (omega arith) n.here in
    (omega arith, subst (λ a. Left sig g a (need - 1) stop) (sym x) n.rest)

pub ends_none : (sig : Arities) (g end : List ℕ) → EndsFrom sig g end (length g)
ends_none sig g end j t b h = absurd (let l = stands_below sig g j t h in omega arith)

pub ends_more : (sig : Arities) (g end : List ℕ) (i e : ℕ) → i < length end → EndsFrom sig g end (i + 1) → ((t : Term) → Stands sig g i t → Left sig g e 0 (i + size t)) → EndsFrom sig g (set end i e) i
ends_more sig g end i e h f l j t b k = go (dec_lt i j)
  where
    go : Dec (i < j) → get_or (set end i e) j 0 ≡ j + size t
    go (yes m) = let n : j ≢ i = omega arith in rw get_or-set_other (f j t (omega arith) k)
    go (no m) =
        let p : i ≡ j = omega arith in
        let at_i : Stands sig g i t = subst (λ z. Stands sig g z t) (sym p) k in
        subst (λ z. get_or (set end i e) z 0 ≡ z + size t) p (get_or-set_same end i e 0 h ∙ left_end sig g e (i + size t) (l t at_i))

-- ── two terms side by side ──

-- From the offsets a and b on, `need` arguments of the terms s and t are left.
pub record Beside (sig : Arities) (g rep : List ℕ) (i r : ℕ) (s t : Term) (a b need : ℕ) : Type 0 where
  pub lefts : Terms
  pub rights : Terms
  pub left_stands : Stands sig g a lefts
  pub right_stands : Stands sig g b rights
  pub left_count : how_many lefts ≡ need
  pub right_count : how_many rights ≡ need
  -- if those that are left are in the same classes, then all are
  pub closes : SameClasses rep a b lefts rights → (e f : ℕ) (ss ts : Terms) → s ≡ node e ss → t ≡ node f ts → SameClasses rep (i + 1) (r + 1) ss ts
  pub forced : (σ : Subst) → sub σ s ≡ sub σ t → sub σ lefts ≡ sub σ rights

pub beside_start : (sig : Arities) (g rep : List ℕ) (i r : ℕ) (s t : Term) → get_or g r 0 ≡ get_or g i 0 → Stands sig g i s → Stands sig g r t → Beside sig g rep i r s t (i + 1) (r + 1) (arguments_of sig (get_or g i 0))
beside_start sig g rep i r (var x) (var y) e h k =
    record {
      lefts = nil;
      rights = nil;
      left_stands = nothing sig g (i + 1) (let b = h.inside in omega arith);
      right_stands = nothing sig g (r + 1) (let b = k.inside in omega arith);
      left_count = sym (arguments_var sig g i x h);
      right_count = sym (arguments_var sig g i x h);
      closes = λ c e f ss ts p q. (cc);
      forced = λ σ p. refl;
    }
beside_start sig g rep i r (var x) (node f ts) e h k =
    let a = code_var sig g i x h in
    let b = code_node sig g r f ts k in
    absurd (omega (arith, h.sorted.0, k.sorted.0))
beside_start sig g rep i r (node f ts) (var x) e h k =
    let a = code_var sig g r x k in
    let b = code_node sig g i f ts h in
    absurd (omega (arith, h.sorted.0, k.sorted.0))
beside_start sig g rep i r (node f ss) (node f' ts) e h k =
    let same : f' ≡ f = sym (code_node sig g r f' ts k) ∙ e ∙ code_node sig g i f ss h in
    record {
      lefts = ss;
      rights = ts;
      left_stands = stands_arguments sig g i f ss h;
      right_stands = stands_arguments sig g r f' ts k;
      left_count = sym (arguments_node sig g i f ss h);
      right_count = sym (arguments_node sig g r f' ts k) ∙ ap (arguments_of sig) e;
      closes = λ c e₁ f₁ ss₁ ts₁ p q. closing ss ts ss₁ ts₁ (cc) (cc) c;
      forced = λ σ p. (cc);
    }
  where
    closing : (ss ts ss₁ ts₁ : Terms) → ss ≡ ss₁ → ts ≡ ts₁ → SameClasses rep (i + 1) (r + 1) ss ts → SameClasses rep (i + 1) (r + 1) ss₁ ts₁
    closing ss ts ss₁ ts₁ p q c = subst (λ z. SameClasses rep (i + 1) (r + 1) z ts₁) p (subst (λ z. SameClasses rep (i + 1) (r + 1) ss z) q c)

pub beside_below : (sig : Arities) (g rep : List ℕ) (i r : ℕ) (s t : Term) (a b need : ℕ) → 0 < need → Beside sig g rep i r s t a b need → (a < length g) × (b < length g)
beside_below sig g rep i r s t a b need pos x = (go a x.lefts x.left_stands x.left_count, go b x.rights x.right_stands x.right_count)
  where
    go : (a : ℕ) (ts : Terms) → Stands sig g a ts → how_many ts ≡ need → a < length g
    go a nil h c = absurd (omega arith)
    go a (cons t ts) h c = stands_below sig g a t (stands_head sig g a t ts h)

-- the same without the terms, which every offset has
pub beside_inside : (sig : Arities) (g rep : List ℕ) (i r a b need : ℕ) → IsForest sig g → i < length g → r < length g → 0 < need → ((s t : Term) → Stands sig g i s → Stands sig g r t → Beside sig g rep i r s t a b need) → (a < length g) × (b < length g)
beside_inside sig g rep i r a b need forest hi hr pos x =
    let s = stands_at sig g i forest hi in
    let t = stands_at sig g r forest hr in
    beside_below sig g rep i r s.0 t.0 a b need pos (x s.0 t.0 s.1 t.1)

pub beside_need : (sig : Arities) (g rep : List ℕ) (i r : ℕ) (s t : Term) (a b m n : ℕ) → m ≡ n → Beside sig g rep i r s t a b m → Beside sig g rep i r s t a b n
beside_need sig g rep i r s t a b m n p x = subst (Beside sig g rep i r s t a b) p x

pub beside_turn : (sig : Arities) (g rep end : List ℕ) (i r : ℕ) (s t : Term) (a b need : ℕ) → Ends sig g end → get_or rep a 0 ≡ get_or rep b 0 → 0 < need → Beside sig g rep i r s t a b need → Beside sig g rep i r s t (get_or end a 0) (get_or end b 0) (need - 1)
beside_turn sig g rep end i r s t a b need ends same pos x = go x.lefts x.rights x.left_stands x.right_stands x.left_count x.right_count x.closes x.forced
  where
    go : (us vs : Terms) → Stands sig g a us → Stands sig g b vs → how_many us ≡ need → how_many vs ≡ need → (SameClasses rep a b us vs → (e f : ℕ) (ss ts : Terms) → s ≡ node e ss → t ≡ node f ts → SameClasses rep (i + 1) (r + 1) ss ts) → ((σ : Subst) → sub σ s ≡ sub σ t → sub σ us ≡ sub σ vs) → Beside sig g rep i r s t (get_or end a 0) (get_or end b 0) (need - 1)
    go nil vs h k m n closes forced = absurd (omega arith)
    go (cons u us) nil h k m n closes forced = absurd (omega arith)
    go (cons u us) (cons v vs) h k m n closes forced =
        let ea = ends a u (stands_head sig g a u us h) in
        let eb = ends b v (stands_head sig g b v vs k) in
        record {
          lefts = us;
          rights = vs;
          left_stands = subst (λ z. Stands sig g z us) (sym ea) (stands_tail sig g a u us h);
          right_stands = subst (λ z. Stands sig g z vs) (sym eb) (stands_tail sig g b v vs k);
          left_count = omega arith;
          right_count = omega arith;
          closes = λ c. closes (same, moved us vs (a + size u) (b + size v) (get_or end a 0) (get_or end b 0) ea eb c);
          forced = λ σ p. let q = forced σ p in (cc);
        }
      where
        moved : (us vs : Terms) (a b a' b' : ℕ) → a' ≡ a → b' ≡ b → SameClasses rep a' b' us vs → SameClasses rep a b us vs
        moved us vs a b a' b' p q c = subst (λ z. SameClasses rep z b us vs) p (subst (λ z. SameClasses rep a' z us vs) q c)

pub beside_split : (sig : Arities) (g rep : List ℕ) (i r : ℕ) (a b need : ℕ) → IsForest sig g → i < length g → r < length g → ¬ (get_or rep a 0 ≡ get_or rep b 0) → 0 < need → ((s t : Term) → Stands sig g i s → Stands sig g r t → Beside sig g rep i r s t a b need) → Split sig g rep i r a b
beside_split sig g rep i r a b need forest hi hr apart pos x =
    let below = beside_inside sig g rep i r a b need forest hi hr pos x in
    record {
      left_inside = below.0;
      right_inside = below.1;
      apart = apart;
      forced = λ σ s t u v h k e h' k'. go σ s t u v (x s t h k) e h' k';
    }
  where
    here : (σ : Subst) (u v : Term) → Stands sig g a u → Stands sig g b v → (us vs : Terms) → Stands sig g a us → Stands sig g b vs → how_many us ≡ need → how_many vs ≡ need → sub σ us ≡ sub σ vs → sub σ u ≡ sub σ v
    here σ u v h k nil vs hu hv m n e = absurd (omega arith)
    here σ u v h k (cons w ws) nil hu hv m n e = absurd (omega arith)
    here σ u v h k (cons w ws) (cons z zs) hu hv m n e =
        let p = stands_one sig g a u w h (stands_head sig g a w ws hu) in
        let q = stands_one sig g b v z k (stands_head sig g b z zs hv) in
        let d : sub σ w ≡ sub σ z = cc in
        ap (sub σ) p ∙ d ∙ sym (ap (sub σ) q)

    go : (σ : Subst) (s t u v : Term) → Beside sig g rep i r s t a b need → sub σ s ≡ sub σ t → Stands sig g a u → Stands sig g b v → sub σ u ≡ sub σ v
    go σ s t u v y e h k = here σ u v h k y.lefts y.rights y.left_stands y.right_stands y.left_count y.right_count (y.forced σ e)

pub beside_end : (sig : Arities) (g rep : List ℕ) (i r a b : ℕ) → ((s t : Term) → Stands sig g i s → Stands sig g r t → Beside sig g rep i r s t a b 0) → ClosedAt sig g rep i r
beside_end sig g rep i r a b x e f ss ts h k =
    let y = x (node e ss) (node f ts) h k in
    y.closes (none y.lefts y.rights y.left_count y.right_count) e f ss ts refl refl
  where
    none : (us vs : Terms) → how_many us ≡ 0 → how_many vs ≡ 0 → SameClasses rep a b us vs
    none nil nil m n = tt
    none nil (cons v vs) m n = absurd (omega arith)
    none (cons u us) vs m n = absurd (omega arith)
