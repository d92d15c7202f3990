-- Renumbering variables by first appearance: it can be undone, and does not depend on how the variables were named.
use Rattle.std.proofs.Common.{◌≡◌, ℕ, suc, ◌+◌, ◌-◌, Bool, true, false, cond, eqb, List, [], ◌∷◌, ◌++◌, map, get_or, sym, refl, ap, ◌∙◌, subst, ap₂, inl, inr, arith}
use Rattle.std.proofs.lemmas.List.{map-append}
use Rattle.std.proofs.lemmas.Bool.{eqb-true, eq-eqb}
use Rattle.terms.specs.Term.{Kind, Tree, var, node, nil, cons, Term, Subst, sub, after, Occurs}
use Rattle.rewriting.specs.Unify.{is_in, seen, index, renumbering}
use Rattle.rewriting.proofs.Substitution.{sub_cong, sub_agree, sub_sub, sub_var}

never : true ≡ false → ⊥
never e = let z : ◌≡◌ {A = ℕ} 0 1 = cc in omega arith

same_is : (x : ℕ) → eqb x x ≡ true
same_is x = eq-eqb x x refl

not_is : (x y : ℕ) → (x ≡ y → ⊥) → eqb x y ≡ false
not_is x y n = by (eqb x y) refl
  where
    by : (b : Bool) → eqb x y ≡ b → b ≡ false
    by true e = absurd (n (eqb-true x y e))
    by false e = refl

-- ── what was seen stays, and what occurs is seen ──

in_front : (x : ℕ) (xs ys : List ℕ) → is_in x xs ≡ true → is_in x (xs ++ ys) ≡ true
in_front x [] ys e = absurd (never (sym e))
in_front x (y ∷ xs) ys e = by (eqb x y) e (in_front x xs ys)
  where
    by : (b : Bool) → cond b true (is_in x xs) ≡ true → (is_in x xs ≡ true → is_in x (xs ++ ys) ≡ true) → cond b true (is_in x (xs ++ ys)) ≡ true
    by true h later = refl
    by false h later = later h

in_last : (x : ℕ) (xs : List ℕ) → is_in x (xs ++ x ∷ []) ≡ true
in_last x [] = ap (λ b. cond b true false) (same_is x)
in_last x (y ∷ xs) = by (eqb x y) (in_last x xs)
  where
    by : (b : Bool) → is_in x (xs ++ x ∷ []) ≡ true → cond b true (is_in x (xs ++ x ∷ [])) ≡ true
    by true h = refl
    by false h = h

seen_keeps : {k : Kind} (x : ℕ) (before : List ℕ) (t : Tree k) → is_in x before ≡ true → is_in x (seen before t) ≡ true
seen_keeps x before (var y) e = by (is_in y before)
  where
    by : (b : Bool) → is_in x (cond b before (before ++ y ∷ [])) ≡ true
    by true = e
    by false = in_front x before (y ∷ []) e
seen_keeps x before (node f ts) e = seen_keeps x before ts e
seen_keeps x before nil e = e
seen_keeps x before (cons t ts) e = seen_keeps x (seen before t) ts (seen_keeps x before t e)

pub seen_has : {k : Kind} (x : ℕ) (before : List ℕ) (t : Tree k) → Occurs x t → is_in x (seen before t) ≡ true
seen_has x before (var y) o = subst (λ z. is_in x (seen before (var z)) ≡ true) o (by (is_in x before) refl)
  where
    by : (b : Bool) → is_in x before ≡ b → is_in x (cond b before (before ++ x ∷ [])) ≡ true
    by true e = e
    by false e = in_last x before
seen_has x before (node f ts) o = seen_has x before ts o
seen_has x before nil o = absurd o
seen_has x before (cons t ts) (inl o) = seen_keeps x (seen before t) ts (seen_has x before t o)
seen_has x before (cons t ts) (inr o) = seen_has x (seen before t) ts o

-- what stands at the index of x is x
index_at : (x : ℕ) (xs : List ℕ) → is_in x xs ≡ true → get_or xs (index x xs) 0 ≡ x
index_at x [] e = absurd (never (sym e))
index_at x (y ∷ xs) e = by (eqb x y) refl e (index_at x xs)
  where
    by : (b : Bool) → eqb x y ≡ b → cond b true (is_in x xs) ≡ true → (is_in x xs ≡ true → get_or xs (index x xs) 0 ≡ x) → get_or (y ∷ xs) (cond b 0 (suc (index x xs))) 0 ≡ x
    by true e h later = sym (eqb-true x y e)
    by false e h later = later h

-- ── renumbering is undone ──

abbrev pub numbering_back : Term → Subst
numbering_back t x = var (get_or (seen [] t) (x - 128) 0)

pub unnumber : {k : Kind} (t : Term) (a : Tree k) → ((x : ℕ) → Occurs x a → Occurs x t) → sub (numbering_back t) (sub (renumbering t) a) ≡ a
unnumber t a h =
    sub_sub (numbering_back t) (renumbering t) a
    ∙ sub_cong a (after (numbering_back t) (renumbering t)) var
    (λ x o.
    let n : (128 + index x (seen [] t)) - 128 ≡ index x (seen [] t) = omega arith in
    ap (λ k. var (get_or (seen [] t) k 0)) n ∙ ap var (index_at x (seen [] t) (seen_has x [] t (h x o))))
    ∙ sub_var a

-- ── renumbering does not depend on the names ──

-- all of a list have the property
abbrev All : (ℕ → Type 0) → List ℕ → Type 0
All P [] = Unit {0}
All P (x ∷ xs) = P x × All P xs

all_push : (P : ℕ → Type 0) (xs : List ℕ) (x : ℕ) → All P xs → P x → All P (xs ++ x ∷ [])
all_push P [] x a p = (p, tt)
all_push P (y ∷ xs) x a p = (a.0, all_push P xs x a.1 p)

seen_all : {k : Kind} (P : ℕ → Type 0) (before : List ℕ) (t : Tree k) → All P before → ((x : ℕ) → Occurs x t → P x) → All P (seen before t)
seen_all P before (var y) a h = by (is_in y before)
  where
    by : (b : Bool) → All P (cond b before (before ++ y ∷ []))
    by true = a
    by false = all_push P before y a (h y refl)
seen_all P before (node f ts) a h = seen_all P before ts a h
seen_all P before nil a h = a
seen_all P before (cons t ts) a h = seen_all P (seen before t) ts (seen_all P before t a (λ x o. h x (inl o))) (λ x o. h x (inr o))

-- a renaming that is one to one where P holds
module _ (P : ℕ → Type 0) (f : ℕ → ℕ) (one_to_one : (x y : ℕ) → P x → P y → f x ≡ f y → x ≡ y) where
  is_same : (x y : ℕ) → P x → P y → eqb (f x) (f y) ≡ eqb x y
  is_same x y p q = by (eqb x y) refl
    where
      by : (b : Bool) → eqb x y ≡ b → eqb (f x) (f y) ≡ b
      by true e = eq-eqb (f x) (f y) (ap f (eqb-true x y e))
      by false e = not_is (f x) (f y) (λ h. never (sym (eq-eqb x y (one_to_one x y p q h)) ∙ e))

  in_same : (x : ℕ) (xs : List ℕ) → P x → All P xs → is_in (f x) (map f xs) ≡ is_in x xs
  in_same x [] p a = refl
  in_same x (y ∷ xs) p a = ap₂ (λ b r. cond b true r) (is_same x y p a.0) (in_same x xs p a.1)

  index_same : (x : ℕ) (xs : List ℕ) → P x → All P xs → index (f x) (map f xs) ≡ index x xs
  index_same x [] p a = refl
  index_same x (y ∷ xs) p a = ap₂ (λ b r. cond b 0 (suc r)) (is_same x y p a.0) (index_same x xs p a.1)

  seen_same : {k : Kind} (before : List ℕ) (t : Tree k) → All P before → ((x : ℕ) → Occurs x t → P x) → seen (map f before) (sub (λ x. var (f x)) t) ≡ map f (seen before t)
  seen_same before (var y) a h = ap (λ b. cond b (map f before) (map f before ++ f y ∷ [])) (in_same y before (h y refl) a) ∙ by (is_in y before)
    where
      by : (b : Bool) → cond b (map f before) (map f before ++ f y ∷ []) ≡ map f (cond b before (before ++ y ∷ []))
      by true = refl
      by false = sym (map-append f before (y ∷ []))
  seen_same before (node g ts) a h = seen_same before ts a h
  seen_same before nil a h = refl
  seen_same before (cons t ts) a h =
      ap (λ xs. seen xs (sub (λ x. var (f x)) ts)) (seen_same before t a (λ x o. h x (inl o)))
      ∙ seen_same (seen before t) ts (seen_all P before t a (λ x o. h x (inl o))) (λ x o. h x (inr o))

  renumber_same : (t : Term) → ((x : ℕ) → Occurs x t → P x) → (x : ℕ) → P x → renumbering (sub (λ x. var (f x)) t) (f x) ≡ renumbering t x
  renumber_same t h x p =
      ap (λ xs. var (128 + index (f x) xs)) (seen_same [] t tt h)
      ∙ ap (λ n. var (128 + n)) (index_same x (seen [] t) p (seen_all P [] t tt h))

-- the number of a variable
abbrev number_of : Term → ℕ
number_of (var x) = x
number_of (node f ts) = 0

-- Terms that are instances of each other differ in the names of their variables only: then the renumbered ones are equal,
-- and so is every term over these variables.
module _ (a b : Term) (δ ε : Subst) (there : sub δ a ≡ b) (back : sub ε b ≡ a) where
  returns : (x : ℕ) → Occurs x a → sub ε (δ x) ≡ var x
  returns x o = sub_agree a (after ε δ) var (sym (sub_sub ε δ a) ∙ ap (sub ε) there ∙ back ∙ sym (sub_var a)) x o

  abbrev renamed : ℕ → ℕ
  renamed x = number_of (δ x)

  is_variable : (t : Term) (x : ℕ) → sub ε t ≡ var x → t ≡ var (number_of t)
  is_variable (var y) x e = refl
  is_variable (node f ts) x e = let z : ◌≡◌ {A = ℕ} 0 1 = cc in absurd (omega arith)

  to_variable : (x : ℕ) → Occurs x a → δ x ≡ var (renamed x)
  to_variable x o = is_variable (δ x) x (returns x o)

  one_to_one : (x y : ℕ) → Occurs x a → Occurs y a → renamed x ≡ renamed y → x ≡ y
  one_to_one x y o p e =
      let h : var x ≡ var y = sym (returns x o) ∙ ap (sub ε) (to_variable x o ∙ ap var e ∙ sym (to_variable y p)) ∙ returns y p in
      cc

  renamed_is : sub (λ x. var (renamed x)) a ≡ b
  renamed_is = sub_cong a (λ x. var (renamed x)) δ (λ x o. sym (to_variable x o)) ∙ there

  pub same_numbers : {k : Kind} (c : Tree k) → ((x : ℕ) → Occurs x c → Occurs x a) → sub (renumbering b) (sub δ c) ≡ sub (renumbering a) c
  same_numbers c h =
      sub_sub (renumbering b) δ c
      ∙ sub_cong c (after (renumbering b) δ) (renumbering a)
      (λ x o.
      ap (sub (renumbering b)) (to_variable x (h x o))
      ∙ ap (λ t. renumbering t (renamed x)) (sym renamed_is)
      ∙ renumber_same (λ y. Occurs y a) renamed one_to_one a (λ y p. p) x (h x o))
