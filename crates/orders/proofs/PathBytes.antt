-- The path order on prefix bytes: what each return of the deciding functions comes from.
use Rattle.std.proofs.Common.{◌≡◌, ℕ, ◌+◌, ◌-◌, ◌<◌, ◌≤◌, Bool, true, false, eqb, ◌⊎◌, List, length, get_or, take, drop, Some, None, Decides, Option, IfSome, sym, refl, ap, ◌∙◌, subst, ap₂, subst₂, inl, inr, arith}
use Rattle.std.specs.Cmp.Lexicographic.{pointwise}
use Rattle.std.proofs.lemmas.Bool.{false≢true}
use Rattle.std.proofs.lemmas.Bool.Decides.{not_from_Decides, Decides-like, Decides-eqb}
use Rattle.std.proofs.lemmas.Slice.Eq.{slice_eq-Decides}
use Rattle.std.proofs.lemmas.List.{take_at, drop_at, take_rest, drop-drop}
use Rattle.terms.specs.Term.{var, node, nil, cons, Term, Terms, how_many, size}
use Rattle.terms.specs.Prefix.{Arities, prefix, WellSorted, Reads, FirstTerm}
use Rattle.terms.proofs.Reading.{prefix_length, size_pos, same_bytes_same_term}
use Rattle.terms.proofs.Parts.{begins_unique, first_within}
use Rattle.order_theory.specs.Path.{Greater, by_argument, SomeAtLeast, is_first, in_first, in_rest, GreaterThanAll, than_none, than_next, Common, from_the_start, one_more}
use Rattle.order_theory.proofs.PathStrict.{irreflexive}
use Rattle.order_theory.proofs.PathSteps.{below_all, variable_not, higher_decides, other_head, common_many, common_same, greater_there, later_below, only_later, later_suffices}

-- an answer "no", and an answer that another one gives
pub says_no : (P : Type 0) → (P → ⊥) → Decides false P
says_no P n = ((λ e. absurd (false≢true e)), λ p. absurd (n p))

pub says_yes : (P : Type 0) → P → Decides true P
says_yes P p = ((λ e. p), λ q. refl)

-- `==` on two slices says whether the bytes are the same
pub same_slices : (s t : List ℕ) (r : Bool) → r ≡ pointwise eqb s t → Decides r (s ≡ t)
same_slices s t r e = slice_eq-Decides Decides-eqb s t r e

module _ (sig : Arities) where
  -- ── the first of some terms ──

  first_something : (bs : List ℕ) (n : ℕ) → FirstTerm sig 4 bs (Some n) → n ≡ 0 → ⊥
  first_something bs n f z = omega (arith, f.2, size_pos f.0)

  pub first_inside : (bs : List ℕ) (o : Option ℕ) → FirstTerm sig 4 bs o → IfSome o (λ n. (1 ≤ n) × (n ≤ length bs))
  first_inside bs (Some n) f = (omega (arith, f.2, size_pos f.0), first_within sig 4 bs n f)
  first_inside bs None f = tt

  first_size : (bs : List ℕ) (n : ℕ) → FirstTerm sig 4 bs (Some n) → (x : Term) (xs : Terms) → WellSorted sig 4 (cons x xs) → prefix (cons x xs) ≡ bs → n ≡ size x
  first_size bs n f x xs w e =
      let same = begins_unique sig 4 bs f.0 x f.1 (record { sorted = w.0; rest = prefix xs; form = e }) in
      omega (arith, f.2, ap size same)

  no_terms : (bs : List ℕ) → FirstTerm sig 4 bs None → (xs : Terms) → WellSorted sig 4 xs → prefix xs ≡ bs → xs ≡ nil
  no_terms bs f nil w e = refl
  no_terms bs f (cons x xs) w e = absurd (f x (record { sorted = w.0; rest = prefix xs; form = e }))

  -- ── bytes of a term ──

  pub not_empty : (bs : List ℕ) (a : Term) → length bs ≡ 0 → Reads sig 4 bs a → ⊥
  not_empty bs a e r = omega (arith, size_pos a, prefix_length a, ap length r.form)

  -- the bytes of arguments stand behind the head
  pub arguments : (bs : List ℕ) (f : ℕ) (ts : Terms) → Reads sig 4 bs (node f ts) → prefix ts ≡ take (length bs - 1) (drop 1 bs)
  arguments bs f ts r = ap (drop 1) r.form ∙ sym (take_rest bs 1)

  head_is : (bs : List ℕ) (f : ℕ) (ts : Terms) → Reads sig 4 bs (node f ts) → get_or bs 0 0 ≡ f
  head_is bs f ts r = ap (λ w. get_or w 0 0) (sym r.form)

  variable_is : (bs : List ℕ) (x : ℕ) → Reads sig 4 bs (var x) → 128 ≤ get_or bs 0 0
  variable_is bs x r = omega (arith, ap (λ w. get_or w 0 0) (sym r.form), r.sorted.0)

  -- the front and the rest of some terms
  pub front_reads : (bs : List ℕ) (n : ℕ) (x : Term) (xs : Terms) → n ≡ size x → WellSorted sig 4 (cons x xs) → prefix (cons x xs) ≡ bs → Reads sig 4 (take n bs) x
  front_reads bs n x xs e w p =
      record { sorted = w.0; form = sym (take_at (prefix x) (prefix xs) (size x) (prefix_length x)) ∙ ap₂ take (sym e) p }

  pub rest_prefix : (bs : List ℕ) (n : ℕ) (x : Term) (xs : Terms) → n ≡ size x → prefix (cons x xs) ≡ bs → prefix xs ≡ take (length bs - n) (drop n bs)
  rest_prefix bs n x xs e p =
      sym (drop_at (prefix x) (prefix xs) n (prefix_length x ∙ sym e)) ∙ ap (drop n) p ∙ sym (take_rest bs n)

  -- ── what two lists begin with alike ──

  sorted_left : {us vs xs ys : Terms} → Common us vs xs ys → WellSorted sig 4 us → WellSorted sig 4 xs
  sorted_left from_the_start w = w
  sorted_left (one_more c) w = (sorted_left c w).1

  sorted_right : {us vs xs ys : Terms} → Common us vs xs ys → WellSorted sig 4 vs → WellSorted sig 4 ys
  sorted_right from_the_start w = w
  sorted_right (one_more c) w = (sorted_right c w).1

  module _ (rank : ℕ → ℕ) where
    -- ── greater ──

    pub variable_no : (s : List ℕ) (a b : Term) → 128 ≤ get_or s 0 0 → Reads sig 4 s a → Decides false (Greater rank a b)
    variable_no s (var x) b h r = says_no (Greater rank (var x) b) (variable_not rank x b)
    variable_no s (node f ss) b h r = absurd (omega (arith, head_is s f ss r, r.sorted.0))

    abbrev ByArguments : List ℕ → List ℕ → Bool → Type 0
    ByArguments s t r =
        (f : ℕ) (us vs xs ys : Terms) → Reads sig 4 s (node f us) → Reads sig 4 t (node f vs) → Common us vs xs ys → prefix xs ≡ drop 1 s → prefix ys ≡ drop 1 t
        → Decides r (Greater rank (node f us) (node f vs))

    pub same_head : (s t : List ℕ) (r : Bool) → ByArguments s t r → get_or s 0 0 < 128 → get_or s 0 0 ≡ get_or t 0 0 → (a b : Term) → Reads sig 4 s a → Reads sig 4 t b → Decides r (Greater rank a b)
    same_head s t r H l e (var x) b p q = absurd (omega (arith, variable_is s x p))
    same_head s t r H l e (node f us) (var y) p q = absurd (omega (arith, variable_is t y q))
    same_head s t r H l e (node f us) (node g vs) p q =
        let d : g ≡ f = sym (head_is t g vs q) ∙ sym e ∙ head_is s f us p in
        subst (λ k. Decides r (Greater rank (node f us) (node k vs))) (sym d)
        (H f us vs us vs p (subst (λ k. Reads sig 4 t (node k vs)) d q) from_the_start (ap (drop 1) p.form) (ap (drop 1) q.form))

    pub higher_head : (s t : List ℕ) (r : Bool) → ((a : Term) (bs : Terms) → Reads sig 4 s a → WellSorted sig 4 bs → prefix bs ≡ take (length t - 1) (drop 1 t) → Decides r (GreaterThanAll rank a bs))
        → get_or s 0 0 < 128 → (get_or t 0 0 < 128) × (rank (get_or t 0 0) < rank (get_or s 0 0)) → (a b : Term) → Reads sig 4 s a → Reads sig 4 t b → Decides r (Greater rank a b)
    higher_head s t r H l k (var x) b p q = absurd (omega (arith, variable_is s x p))
    higher_head s t r H l k (node f us) (var y) p q = absurd (omega (arith, variable_is t y q, k.0))
    higher_head s t r H l k (node f us) (node g vs) p q =
        let above : rank g < rank f = subst₂ (λ y x. rank y < rank x) (head_is t g vs q) (head_is s f us p) k.1 in
        Decides-like r (higher_decides rank f g us vs above) (below_all rank (node f us) g vs) (H (node f us) vs p q.sorted.2 (arguments t g vs q))

    pub neither : (s t : List ℕ) (r : Bool) → ((xs : Terms) (b : Term) → WellSorted sig 4 xs → prefix xs ≡ take (length s - 1) (drop 1 s) → Reads sig 4 t b → Decides r (SomeAtLeast rank xs b))
        → get_or s 0 0 < 128 → (get_or s 0 0 ≡ get_or t 0 0 → ⊥) → ((get_or t 0 0 < 128) × (rank (get_or t 0 0) < rank (get_or s 0 0)) → ⊥) → (a b : Term) → Reads sig 4 s a → Reads sig 4 t b → Decides r (Greater rank a b)
    neither s t r H l n m (var x) b p q = absurd (omega (arith, variable_is s x p))
    neither s t r H l n m (node f us) b p q =
        Decides-like r (λ a. by_argument a) (other_head rank f us b (λ g vs e. others g vs (subst (Reads sig 4 t) e q))) (H us b p.sorted.2 (arguments s f us p) q)
      where
        others : (g : ℕ) (vs : Terms) → Reads sig 4 t (node g vs) → (rank g < rank f → ⊥) × (f ≡ g → ⊥)
        others g vs w = (
          (λ k. m (omega (arith, head_is t g vs w, w.sorted.0), subst₂ (λ y x. rank y < rank x) (sym (head_is t g vs w)) (sym (head_is s f us p)) k)),
          (λ k. n (head_is s f us p ∙ k ∙ sym (head_is t g vs w))),
        )

    -- ── greater or the same ──

    pub same_yes : (s t : List ℕ) (a b : Term) → s ≡ t → Reads sig 4 s a → Reads sig 4 t b → Decides true ((a ≡ b) ⊎ Greater rank a b)
    same_yes s t a b e p q = says_yes ((a ≡ b) ⊎ Greater rank a b) (inl (same_bytes_same_term sig 4 4 t a b (subst (λ w. Reads sig 4 w a) e p) q))

    pub same_not : (s t : List ℕ) (a b : Term) (r : Bool) → (s ≡ t → ⊥) → Reads sig 4 s a → Reads sig 4 t b → Decides r (Greater rank a b) → Decides r ((a ≡ b) ⊎ Greater rank a b)
    same_not s t a b r n p q d = Decides-like r inr back d
      where
        back : (a ≡ b) ⊎ Greater rank a b → Greater rank a b
        back (inl e) = absurd (n (sym p.form ∙ ap prefix e ∙ q.form))
        back (inr g) = g

    -- ── some at least ──

    module _ (bs : List ℕ) (first : FirstTerm sig 4 bs None) where
      pub some_none : (xs : Terms) (b : Term) → WellSorted sig 4 xs → prefix xs ≡ bs → Decides false (SomeAtLeast rank xs b)
      some_none xs b w e = says_no (SomeAtLeast rank xs b) (none_of xs b (no_terms bs first xs w e))
        where
          none_of : (ys : Terms) (c : Term) → ys ≡ nil → SomeAtLeast rank ys c → ⊥
          none_of ys c d (is_first) = cc
          none_of ys c d (in_first g) = cc
          none_of ys c d (in_rest g) = cc

      pub all_none : (a : Term) (xs : Terms) → WellSorted sig 4 xs → prefix xs ≡ bs → Decides true (GreaterThanAll rank a xs)
      all_none a xs w e = says_yes (GreaterThanAll rank a xs) (subst (GreaterThanAll rank a) (sym (no_terms bs first xs w e)) than_none)

    -- ── the first of the terms, and the rest ──

    module _ (bs : List ℕ) (n : ℕ) (first : FirstTerm sig 4 bs (Some n)) where
      no_nil : prefix nil ≡ bs → ⊥
      no_nil e = first_something bs n first (omega (arith, ap length e, first_within sig 4 bs n first))

      pub some_first : (t : List ℕ) (r : Bool) → r ≡ true → ((a b : Term) → Reads sig 4 (take n bs) a → Reads sig 4 t b → Decides r ((a ≡ b) ⊎ Greater rank a b))
          → (xs : Terms) (b : Term) → WellSorted sig 4 xs → prefix xs ≡ bs → Reads sig 4 t b → Decides true (SomeAtLeast rank xs b)
      some_first t r y H nil b w e q = absurd (no_nil e)
      some_first t r y H (cons x xs) b w e q = says_yes (SomeAtLeast rank (cons x xs) b) (go ((H x b (front_reads bs n x xs (first_size bs n first x xs w e) w e) q).0 y))
        where
          go : (x ≡ b) ⊎ Greater rank x b → SomeAtLeast rank (cons x xs) b
          go (inl d) = subst (SomeAtLeast rank (cons x xs)) d is_first
          go (inr g) = in_first g

      pub some_later : (t : List ℕ) (r k : Bool) → r ≡ false → ((a b : Term) → Reads sig 4 (take n bs) a → Reads sig 4 t b → Decides r ((a ≡ b) ⊎ Greater rank a b))
          → ((xs : Terms) (b : Term) → WellSorted sig 4 xs → prefix xs ≡ take (length bs - n) (drop n bs) → Reads sig 4 t b → Decides k (SomeAtLeast rank xs b))
          → (xs : Terms) (b : Term) → WellSorted sig 4 xs → prefix xs ≡ bs → Reads sig 4 t b → Decides k (SomeAtLeast rank xs b)
      some_later t r k y H L nil b w e q = absurd (no_nil e)
      some_later t r k y H L (cons x xs) b w e q =
          Decides-like k in_rest (λ h. back (cons x xs) b h refl refl) (L xs b w.1 (rest_prefix bs n x xs (first_size bs n first x xs w e) e) q)
        where
          differ : (x ≡ b) ⊎ Greater rank x b → ⊥
          differ = not_from_Decides r (H x b (front_reads bs n x xs (first_size bs n first x xs w e) w e) q) y

          back : (ws : Terms) (v : Term) → SomeAtLeast rank ws v → ws ≡ cons x xs → v ≡ b → SomeAtLeast rank xs b
          back ws v (is_first {t = u}) d c = absurd (differ (inl (cc)))
          back ws v (in_first {s = u} g) d c = let p : u ≡ x = cc in absurd (differ (inr (subst₂ (Greater rank) p c g)))
          back ws v (in_rest {ss = rest} g) d c = let p : rest ≡ xs = cc in subst₂ (SomeAtLeast rank) p c g

      pub all_first : (s : List ℕ) (r : Bool) → r ≡ false → ((a b : Term) → Reads sig 4 s a → Reads sig 4 (take n bs) b → Decides r (Greater rank a b))
          → (a : Term) (xs : Terms) → Reads sig 4 s a → WellSorted sig 4 xs → prefix xs ≡ bs → Decides false (GreaterThanAll rank a xs)
      all_first s r y H a nil q w e = absurd (no_nil e)
      all_first s r y H a (cons x xs) q w e =
          says_no (GreaterThanAll rank a (cons x xs)) (λ h. not_from_Decides r (H a x q (front_reads bs n x xs (first_size bs n first x xs w e) w e)) y (head_of a (cons x xs) h refl))
        where
          head_of : (c : Term) (ws : Terms) → GreaterThanAll rank c ws → ws ≡ cons x xs → Greater rank c x
          head_of c ws than_none d = cc
          head_of c ws (than_next {t = u} g k) d = let p : u ≡ x = cc in subst (Greater rank c) p g

      pub all_later : (s : List ℕ) (r k : Bool) → r ≡ true → ((a b : Term) → Reads sig 4 s a → Reads sig 4 (take n bs) b → Decides r (Greater rank a b))
          → ((a : Term) (xs : Terms) → Reads sig 4 s a → WellSorted sig 4 xs → prefix xs ≡ take (length bs - n) (drop n bs) → Decides k (GreaterThanAll rank a xs))
          → (a : Term) (xs : Terms) → Reads sig 4 s a → WellSorted sig 4 xs → prefix xs ≡ bs → Decides k (GreaterThanAll rank a xs)
      all_later s r k y H L a nil q w e = absurd (no_nil e)
      all_later s r k y H L a (cons x xs) q w e =
          Decides-like k (than_next ((H a x q (front_reads bs n x xs (first_size bs n first x xs w e) w e)).0 y)) (λ h. tail_of a (cons x xs) h refl) (L a xs q w.1 (rest_prefix bs n x xs (first_size bs n first x xs w e) e))
        where
          tail_of : (c : Term) (ws : Terms) → GreaterThanAll rank c ws → ws ≡ cons x xs → GreaterThanAll rank c xs
          tail_of c ws than_none d = cc
          tail_of c ws (than_next {ts = rest} g k) d = let p : rest ≡ xs = cc in subst (GreaterThanAll rank c) p k

    -- ── the same head: by the arguments ──

    module _ (s t : List ℕ) (i f : ℕ) (us vs xs ys : Terms) (p : Reads sig 4 s (node f us)) (q : Reads sig 4 t (node f vs)) (c : Common us vs xs ys) (ex : prefix xs ≡ drop i s) (ey : prefix ys ≡ drop i t) where
      equal_arity : {m n : ℕ} → ◌≡◌ {A = Option ℕ} (Some m) (Some n) → m ≡ n
      equal_arity e = cc

      as_many : how_many xs ≡ how_many ys
      as_many = common_many rank c (equal_arity (sym p.sorted.1 ∙ q.sorted.1))

      nil_by_many : (ws : Terms) → how_many ws ≡ 0 → ws ≡ nil
      nil_by_many nil e = refl
      nil_by_many (cons x ws) e = absurd (omega arith)

      -- all arguments are the same, so the terms are
      all_same : xs ≡ nil → ys ≡ nil → Decides false (Greater rank (node f us) (node f vs))
      all_same a b =
          let e : us ≡ vs = common_same rank c (a ∙ sym b) in
          says_no (Greater rank (node f us) (node f vs)) (λ g. irreflexive rank (node f vs) (subst (λ w. Greater rank (node f w) (node f vs)) e g))

      pub left_ends : FirstTerm sig 4 (take (length s - i) (drop i s)) None → Decides false (Greater rank (node f us) (node f vs))
      left_ends none =
          let a = no_terms (take (length s - i) (drop i s)) none xs (sorted_left c p.sorted.2) (ex ∙ sym (take_rest s i)) in
          all_same a (nil_by_many ys (omega (arith, as_many, ap how_many a)))

      pub right_ends : FirstTerm sig 4 (take (length t - i) (drop i t)) None → Decides false (Greater rank (node f us) (node f vs))
      right_ends none =
          let b = no_terms (take (length t - i) (drop i t)) none ys (sorted_right c q.sorted.2) (ey ∙ sym (take_rest t i)) in
          all_same (nil_by_many xs (omega (arith, as_many, ap how_many b))) b

  some_same : {m n : ℕ} → ◌≡◌ {A = Option ℕ} (Some m) (Some n) → m ≡ n
  some_same e = cc

  -- the terms that come next on both sides
  pub record Ahead (s t : List ℕ) (i m n : ℕ) (us vs : Terms) : Type 0 where
    pub x : Term
    pub y : Term
    pub xs : Terms
    pub ys : Terms
    pub common : Common us vs (cons x xs) (cons y ys)
    pub as_many : how_many xs ≡ how_many ys
    pub x_size : m ≡ size x
    pub y_size : n ≡ size y
    pub x_reads : Reads sig 4 (take ((i + m) - i) (drop i s)) x
    pub y_reads : Reads sig 4 (take ((i + n) - i) (drop i t)) y
    pub xs_sorted : WellSorted sig 4 xs
    pub ys_sorted : WellSorted sig 4 ys
    pub xs_rest : prefix xs ≡ drop (i + m) s
    pub ys_rest : prefix ys ≡ drop (i + n) t

  -- one side of what comes next
  next_reads : (s : List ℕ) (i m : ℕ) (x : Term) (xs : Terms) → WellSorted sig 4 (cons x xs) → prefix (cons x xs) ≡ drop i s → m ≡ size x → Reads sig 4 (take ((i + m) - i) (drop i s)) x
  next_reads s i m x xs w e d =
      let k : (i + m) - i ≡ size x = omega arith in
      record { sorted = w.0; form = sym (take_at (prefix x) (prefix xs) (size x) (prefix_length x)) ∙ ap₂ take (sym k) e }

  next_rest : (s : List ℕ) (i m : ℕ) (x : Term) (xs : Terms) → prefix (cons x xs) ≡ drop i s → m ≡ size x → prefix xs ≡ drop (i + m) s
  next_rest s i m x xs e d = sym (drop_at (prefix x) (prefix xs) m (prefix_length x ∙ sym d)) ∙ ap (drop m) e ∙ drop-drop m i s

  pub ahead : (rank : ℕ → ℕ) (s t : List ℕ) (i f : ℕ) (us vs xs ys : Terms) (p : Reads sig 4 s (node f us)) (q : Reads sig 4 t (node f vs)) (c : Common us vs xs ys) (ex : prefix xs ≡ drop i s) (ey : prefix ys ≡ drop i t)
      → (m n : ℕ) → FirstTerm sig 4 (take (length s - i) (drop i s)) (Some m) → FirstTerm sig 4 (take (length t - i) (drop i t)) (Some n)
      → Ahead s t i m n us vs
  ahead rank s t i f us vs nil ys p q c ex ey m n fs ft = absurd (no_nil rank (take (length s - i) (drop i s)) m fs (ex ∙ sym (take_rest s i)))
  ahead rank s t i f us vs (cons x xs) nil p q c ex ey m n fs ft = absurd (no_nil rank (take (length t - i) (drop i t)) n ft (ey ∙ sym (take_rest t i)))
  ahead rank s t i f us vs (cons x xs) (cons y ys) p q c ex ey m n fs ft =
      let wx = sorted_left c p.sorted.2 in
      let wy = sorted_right c q.sorted.2 in
      let dx = first_size (take (length s - i) (drop i s)) m fs x xs wx (ex ∙ sym (take_rest s i)) in
      let dy = first_size (take (length t - i) (drop i t)) n ft y ys wy (ey ∙ sym (take_rest t i)) in
      let k : how_many us ≡ how_many vs = some_same (sym p.sorted.1 ∙ q.sorted.1) in
      record {
        x = x;
        y = y;
        xs = xs;
        ys = ys;
        common = c;
        as_many = omega (arith, common_many rank c k);
        x_size = dx;
        y_size = dy;
        x_reads = next_reads s i m x xs wx ex dx;
        y_reads = next_reads t i n y ys wy ey dy;
        xs_sorted = wx.1;
        ys_sorted = wy.1;
        xs_rest = next_rest s i m x xs ex dx;
        ys_rest = next_rest t i n y ys ey dy;
      }

  module _ (rank : ℕ → ℕ) (s t : List ℕ) (i m n f : ℕ) (us vs : Terms) (p : Reads sig 4 s (node f us)) (q : Reads sig 4 t (node f vs)) (a : Ahead s t i m n us vs) where
    -- the same argument on both sides is passed over
    pub next_same : (r : Bool) → take ((i + m) - i) (drop i s) ≡ take ((i + n) - i) (drop i t)
        → ((f : ℕ) (us vs xs ys : Terms) → Reads sig 4 s (node f us) → Reads sig 4 t (node f vs) → Common us vs xs ys → prefix xs ≡ drop (i + m) s → prefix ys ≡ drop (i + m) t → Decides r (Greater rank (node f us) (node f vs)))
        → Decides r (Greater rank (node f us) (node f vs))
    next_same r e H =
        let same : a.x ≡ a.y = same_bytes_same_term sig 4 4 (take ((i + n) - i) (drop i t)) a.x a.y (subst (λ w. Reads sig 4 w a.x) e a.x_reads) a.y_reads in
        let sizes : m ≡ n = omega (arith, ap size same, a.x_size, a.y_size) in
        H f us vs a.xs a.ys p q
        (one_more (subst (λ z. Common us vs (cons a.x a.xs) (cons z a.ys)) (sym same) a.common))
        a.xs_rest
        (a.ys_rest ∙ ap (λ k. drop (i + k) t) (sym sizes))

    -- a greater argument decides, if s is greater than what follows on the right
    pub next_greater : (g r : Bool) → g ≡ true → ((x y : Term) → Reads sig 4 (take ((i + m) - i) (drop i s)) x → Reads sig 4 (take ((i + n) - i) (drop i t)) y → Decides g (Greater rank x y))
        → ((z : Term) (zs : Terms) → Reads sig 4 s z → WellSorted sig 4 zs → prefix zs ≡ take (length t - (i + n)) (drop (i + n) t) → Decides r (GreaterThanAll rank z zs))
        → Decides r (Greater rank (node f us) (node f vs))
    next_greater g r e H L =
        let above = (H a.x a.y a.x_reads a.y_reads).0 e in
        Decides-like r (greater_there rank f a.x a.y a.common a.as_many above) (λ h. rest_of (node f us) (cons a.y a.ys) (later_below rank f a.common h) refl) (L (node f us) a.ys p a.ys_sorted (a.ys_rest ∙ sym (take_rest t (i + n))))
      where
        rest_of : (c : Term) (ws : Terms) → GreaterThanAll rank c ws → ws ≡ cons a.y a.ys → GreaterThanAll rank c a.ys
        rest_of c ws than_none d = cc
        rest_of c ws (than_next {ts = rest} g k) d = let w : rest ≡ a.ys = cc in subst (GreaterThanAll rank c) w k

    -- else only a later argument can do
    pub next_less : (g r : Bool) → g ≡ false → (take ((i + m) - i) (drop i s) ≡ take ((i + n) - i) (drop i t) → ⊥) → ((x y : Term) → Reads sig 4 (take ((i + m) - i) (drop i s)) x → Reads sig 4 (take ((i + n) - i) (drop i t)) y → Decides g (Greater rank x y))
        → ((zs : Terms) (b : Term) → WellSorted sig 4 zs → prefix zs ≡ take (length s - (i + m)) (drop (i + m) s) → Reads sig 4 t b → Decides r (SomeAtLeast rank zs b))
        → Decides r (Greater rank (node f us) (node f vs))
    next_less g r e d H L =
        let less = not_from_Decides g (H a.x a.y a.x_reads a.y_reads) e in
        let differ : a.x ≡ a.y → ⊥ = λ same. d (sym a.x_reads.form ∙ ap prefix same ∙ a.y_reads.form) in
        Decides-like r (later_suffices rank f us vs a.x a.y a.xs a.ys a.common differ less) (only_later rank f us vs a.x a.y a.xs a.ys a.common differ less) (L a.xs (node f vs) a.xs_sorted (a.xs_rest ∙ sym (take_rest s (i + m))) q)
