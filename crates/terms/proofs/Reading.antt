-- The prefix form: its length, unique reading, and instances byte by byte.
use Rattle.std.proofs.Common.{◌≡◌, ℕ, ◌<◌, ◌≤◌, cond, ltb, List, [], ◌∷◌, ◌++◌, length, Some, None, Option, sym, refl, ap, ◌∙◌, ap₂, append_assoc, append-nil, one-add, arith, length-append, le-ltb, lt-ltb}
use Rattle.terms.specs.Term.{Kind, Tree, var, node, nil, cons, Term, Terms, how_many, size, Subst, sub}
use Rattle.terms.specs.Prefix.{Arities, prefix, expand, image, WellSorted, front, behind, put_before, terms_of, head_term, term_of}
use Rattle.terms.specs.Theorems.{SameBytesSameTerm, NoProperBeginning, BytesReadAsTheirTerm, InstanceByteByByte}

-- the prefix form has one byte for each symbol and variable
pub prefix_length : {k : Kind} (t : Tree k) → length (prefix t) ≡ size t
prefix_length (var x) = refl
prefix_length (node f ts) = let h = prefix_length ts in omega arith
prefix_length nil = refl
prefix_length (cons t ts) = let a = prefix_length t in let b = prefix_length ts in simp length-append (omega arith)

-- one list of terms behind another
abbrev pub join : Terms → Terms → Terms
join nil us = us
join (cons t ts) us = cons t (join ts us)

pub size_pos : (t : Term) → 0 < size t
size_pos (var x) = omega arith
size_pos (node f ts) = omega arith

both_one : (t u : Term) → how_many t ≡ how_many u
both_one (var x) (var y) = refl
both_one (var x) (node g us) = refl
both_one (node f ts) (var y) = refl
both_one (node f ts) (node g us) = refl

some_same : {m n : ℕ} → ◌≡◌ {A = Option ℕ} (Some m) (Some n) → m ≡ n
some_same e = cc

module _ (sig : Arities) (m n : ℕ) where
  -- what begins the same bytes is the same, and so is what follows
  pub reading_unique : {k : Kind} (t u : Tree k) (xs ys : List ℕ) → WellSorted sig m t → WellSorted sig n u → how_many t ≡ how_many u → prefix t ++ xs ≡ prefix u ++ ys → (t ≡ u) × (xs ≡ ys)
  reading_unique (var x) (var y) xs ys a b h e = let g : x ≡ y = cc in (ap var g, cc)
  reading_unique (var x) (node g us) xs ys a b h e = let z : x ≡ g = cc in absurd (omega arith)
  reading_unique (node f ts) (var y) xs ys a b h e = let z : f ≡ y = cc in absurd (omega arith)
  reading_unique (node f ts) (node g us) xs ys a b h e =
      let same : f ≡ g = cc in
      let r = reading_unique ts us xs ys a.2 b.2 (some_same (sym a.1 ∙ ap sig same ∙ b.1)) (cc) in
      (ap₂ node same r.0, r.1)
  reading_unique nil nil xs ys a b h e = (refl, e)
  reading_unique nil (cons u us) xs ys a b h e = absurd (omega arith)
  reading_unique (cons t ts) nil xs ys a b h e = absurd (omega arith)
  reading_unique (cons t ts) (cons u us) xs ys a b h e =
      let first = reading_unique t u (prefix ts ++ xs) (prefix us ++ ys) a.0 b.0 (both_one t u) (sym (append_assoc (prefix t) (prefix ts) xs) ∙ e ∙ append_assoc (prefix u) (prefix us) ys) in
      let rest = reading_unique ts us xs ys a.1 b.1 (omega arith) first.1 in
      (ap₂ cons first.0 rest.0, rest.1)

  pub terms_unique : (t u : Term) (xs ys : List ℕ) → WellSorted sig m t → WellSorted sig n u → prefix t ++ xs ≡ prefix u ++ ys → (t ≡ u) × (xs ≡ ys)
  terms_unique t u xs ys a b e = reading_unique t u xs ys a b (both_one t u) e

pub same_bytes_same_term : SameBytesSameTerm
same_bytes_same_term sig m n bs t u a b =
    (terms_unique sig m n t u [] [] a.sorted b.sorted (append-nil (prefix t) ∙ a.form ∙ sym b.form ∙ sym (append-nil (prefix u)))).0

pub no_proper_beginning : NoProperBeginning
no_proper_beginning sig m n bs more t u a b =
    (terms_unique sig m n t u more [] a.sorted b.sorted (ap (λ w. w ++ more) a.form ∙ sym b.form ∙ sym (append-nil (prefix u)))).1

-- ── the term that bytes read as ──

front_all : (ts us : Terms) → front (how_many ts) (join ts us) ≡ ts
front_all nil us = refl
front_all (cons t ts) us = rw one-add (ap (cons t) (front_all ts us))

behind_all : (ts us : Terms) → behind (how_many ts) (join ts us) ≡ us
behind_all nil us = refl
behind_all (cons t ts) us = rw one-add (behind_all ts us)

module _ (sig : Arities) (n : ℕ) where
  no_code : (x : ℕ) (ts : Terms) → 128 ≤ x → put_before x (cond (ltb x 128) (sig x) None) ts ≡ cons (var x) ts
  no_code x ts h = ap (λ b. put_before x (cond b (sig x) None) ts) (le-ltb x 128 h)

  code : (f m : ℕ) (ts : Terms) → f < 128 → sig f ≡ Some m → put_before f (cond (ltb f 128) (sig f) None) ts ≡ cons (node f (front m ts)) (behind m ts)
  code f m ts h e = ap₂ (λ b a. put_before f (cond b a None) ts) (lt-ltb f 128 h) e

  pub terms_of_prefix : (ts : Terms) (bs : List ℕ) → WellSorted sig n ts → terms_of sig (prefix ts ++ bs) ≡ join ts (terms_of sig bs)
  terms_of_prefix nil bs w = refl
  terms_of_prefix (cons (var x) ts) bs w =
      no_code x (terms_of sig (prefix ts ++ bs)) w.0.0 ∙ ap (cons (var x)) (terms_of_prefix ts bs w.1)
  terms_of_prefix (cons (node f us) ts) bs w =
      let rest : terms_of sig ((prefix us ++ prefix ts) ++ bs) ≡ join us (join ts (terms_of sig bs)) =
      ap (terms_of sig) (append_assoc (prefix us) (prefix ts) bs) ∙ terms_of_prefix us (prefix ts ++ bs) w.0.2 ∙ ap (join us) (terms_of_prefix ts bs w.1) in
      code f (how_many us) (terms_of sig ((prefix us ++ prefix ts) ++ bs)) w.0.0 w.0.1
      ∙ ap (λ vs. cons (node f (front (how_many us) vs)) (behind (how_many us) vs)) rest
      ∙ ap₂ (λ a b. cons (node f a) b) (front_all us (join ts (terms_of sig bs))) (behind_all us (join ts (terms_of sig bs)))

pub bytes_read_as_their_term : BytesReadAsTheirTerm
bytes_read_as_their_term sig n bs t r =
    let form : prefix (cons t nil) ++ [] ≡ bs = append-nil (prefix t ++ []) ∙ append-nil (prefix t) ∙ r.form in
    ap (term_of sig) (sym form) ∙ ap head_term (terms_of_prefix sig n (cons t nil) [] (r.sorted, tt))

-- ── instances ──

pub expand_append : (h : ℕ → List ℕ) (xs ys : List ℕ) → expand h (xs ++ ys) ≡ expand h xs ++ expand h ys
expand_append h [] ys = refl
expand_append h (x ∷ xs) ys = ap (λ zs. h x ++ zs) (expand_append h xs ys) ∙ sym (append_assoc (h x) (expand h xs) (expand h ys))

module _ (sig : Arities) (n : ℕ) (σ : Subst) where
  image_var : (x : ℕ) → 128 ≤ x → image σ x ≡ prefix (σ x)
  image_var x h = ap (λ b. cond b (x ∷ []) (prefix (σ x))) (le-ltb x 128 h)

  image_code : (f : ℕ) → f < 128 → image σ f ≡ f ∷ []
  image_code f h = ap (λ b. cond b (f ∷ []) (prefix (σ f))) (lt-ltb f 128 h)

  pub prefix_sub : {k : Kind} (t : Tree k) → WellSorted sig n t → prefix (sub σ t) ≡ expand (image σ) (prefix t)
  prefix_sub (var x) w = sym (append-nil (image σ x) ∙ image_var x w.0)
  prefix_sub (node f ts) w = ap₂ (λ a b. a ++ b) (sym (image_code f w.0)) (prefix_sub ts w.2)
  prefix_sub nil w = refl
  prefix_sub (cons t ts) w =
      ap₂ (λ a b. a ++ b) (prefix_sub t w.0) (prefix_sub ts w.1) ∙ sym (expand_append (image σ) (prefix t) (prefix ts))

pub instance_byte_by_byte : InstanceByteByByte
instance_byte_by_byte sig n σ t w = prefix_sub sig n σ t w
