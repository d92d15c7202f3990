-- Reading prefix bytes from the left finds the first term, and only terms are found.
use Rattle.std.proofs.Common.{◌≡◌, ℕ, zero, suc, ◌+◌, ◌-◌, ◌<◌, ◌≤◌, ◌⊎◌, List, [], ◌∷◌, ◌++◌, length, get_or, drop, Some, None, Option, sym, refl, ap, ◌∙◌, subst, inl, inr, append_assoc, append-nil, arith, length-drop}
use Rattle.std.proofs.lemmas.Bool.{cases_lt}
use Rattle.std.proofs.lemmas.List.{drop_more}
use Rattle.std.proofs.lemmas.Option.{none-some}
use Rattle.terms.specs.Term.{var, node, nil, cons, Term, Terms, how_many, size}
use Rattle.terms.specs.Prefix.{Arities, prefix, WellSorted, FirstTerm}
use Rattle.terms.specs.Scan.{owes}
use Rattle.terms.proofs.Reading.{join}

-- a length, if there is one, with n more
abbrev pub longer : ℕ → Option ℕ → Option ℕ
longer n (Some m) = Some (n + m)
longer n None = None

-- the length of the first k terms
abbrev pub scan : Arities → ℕ → ℕ → List ℕ → Option ℕ
scan sig vars zero bs = Some 0
scan sig vars (suc k) [] = None
scan sig vars (suc k) (b ∷ bs) = elim (owes sig vars b) [ Some a ↦ longer 1 (scan sig vars (k + a) bs) | None ↦ None ]

longer_longer : (m n : ℕ) (o : Option ℕ) → longer m (longer n o) ≡ longer (m + n) o
longer_longer m n (Some k) = ap {B = Option ℕ} Some (omega arith)
longer_longer m n None = refl

longer_none : (o : Option ℕ) → longer 0 o ≡ o
longer_none (Some k) = ap {B = Option ℕ} Some (omega arith)
longer_none None = refl

option_cases : (o : Option ℕ) → ((a : ℕ) × (o ≡ Some a)) ⊎ (o ≡ None)
option_cases (Some a) = inl (a, refl)
option_cases None = inr refl

pub some_same : {m n : ℕ} → ◌≡◌ {A = Option ℕ} (Some m) (Some n) → m ≡ n
some_same e = cc

pub prefix_join : (ts us : Terms) → prefix (join ts us) ≡ prefix ts ++ prefix us
prefix_join nil us = refl
prefix_join (cons t ts) us = ap (λ w. prefix t ++ w) (prefix_join ts us) ∙ sym (append_assoc (prefix t) (prefix ts) (prefix us))

-- a list of terms, split behind the first m of them
pub record Parted (ts : Terms) (m n : ℕ) : Type 0 where
  pub front : Terms
  pub back : Terms
  pub is : ts ≡ join front back
  pub front_many : how_many front ≡ m
  pub back_many : how_many back ≡ n

parted : (m n : ℕ) (ts : Terms) → how_many ts ≡ m + n → Parted ts m n
parted zero n ts e = record { front = nil; back = ts; is = refl; front_many = refl; back_many = omega arith }
parted (suc m) n nil e = absurd (omega arith)
parted (suc m) n (cons t ts) e =
    let p = parted m n ts (omega arith) in
    let f = p.front_many in
    record { front = cons t p.front; back = p.back; is = ap (cons t) p.is; front_many = omega arith; back_many = p.back_many }

module _ (sig : Arities) (vars : ℕ) where
  owes_var : (x : ℕ) → 128 ≤ x → x < 128 + vars → owes sig vars x ≡ Some 0
  owes_var x g h = grind arith

  owes_node : (f n : ℕ) → f < 128 → sig f ≡ Some n → owes sig vars f ≡ Some n
  owes_node f n h e = grind arith

  owes_cases : (b a : ℕ) → owes sig vars b ≡ Some a → ((b < 128) × (sig b ≡ Some a)) ⊎ ((128 ≤ b) × (b < 128 + vars) × (a ≡ 0))
  owes_cases b a e = elim (cases_lt b 128) [ inl h ↦ inl (h, grind arith) | inr h ↦ inr (h, grind arith, grind arith) ]

  scan_more : (k m b a : ℕ) (bs : List ℕ) → 0 < k → owes sig vars b ≡ Some a → m + 1 ≡ k + a → scan sig vars k (b ∷ bs) ≡ longer 1 (scan sig vars m bs)
  scan_more zero m b a bs h e s = absurd (omega arith)
  scan_more (suc k) m b a bs h e s =
      let n : k + a ≡ m = omega arith in
      ap (λ (o : Option ℕ). elim o as (λ _. Option ℕ) [ Some v ↦ longer 1 (scan sig vars (k + v) bs) | None ↦ None ]) e
      ∙ ap (λ v. longer 1 (scan sig vars v bs)) n

  scan_stop : (k b : ℕ) (bs : List ℕ) → 0 < k → owes sig vars b ≡ None → scan sig vars k (b ∷ bs) ≡ None
  scan_stop zero b bs h e = absurd (omega arith)
  scan_stop (suc k) b bs h e = ap (λ (o : Option ℕ). elim o as (λ _. Option ℕ) [ Some v ↦ longer 1 (scan sig vars (k + v) bs) | None ↦ None ]) e

  -- terms are read off again
  scan_terms : (ts : Terms) → WellSorted sig vars ts → (k : ℕ) (r : List ℕ) → scan sig vars (k + how_many ts) (prefix ts ++ r) ≡ longer (size ts) (scan sig vars k r)
  scan_terms nil s k r = let n : k + 0 ≡ k = omega arith in ap (λ m. scan sig vars m r) n ∙ sym (longer_none (scan sig vars k r))
  scan_terms (cons (var x) ts) s k r =
      scan_more (k + (1 + how_many ts)) (k + how_many ts) x 0 (prefix ts ++ r) (omega arith) (owes_var x s.0.0 s.0.1) (omega arith)
      ∙ ap (longer 1) (scan_terms ts s.1 k r)
      ∙ longer_longer 1 (size ts) (scan sig vars k r)
  scan_terms (cons (node f us) ts) s k r =
      let a : (prefix us ++ prefix ts) ++ r ≡ prefix us ++ (prefix ts ++ r) = append_assoc (prefix us) (prefix ts) r in
      let n : how_many us + (k + how_many ts) ≡ (k + how_many ts) + how_many us = omega arith in
      scan_more (k + (1 + how_many ts)) ((k + how_many ts) + how_many us) f (how_many us) ((prefix us ++ prefix ts) ++ r) (omega arith) (owes_node f (how_many us) s.0.0 s.0.1) (omega arith)
      ∙ ap (λ w. longer 1 (scan sig vars ((k + how_many ts) + how_many us) w)) a
      ∙ ap (longer 1) (scan_terms us s.0.2 (k + how_many ts) (prefix ts ++ r))
      ∙ ap (λ o. longer 1 (longer (size us) o)) (scan_terms ts s.1 k r)
      ∙ longer_longer 1 (size us) (longer (size ts) (scan sig vars k r))
      ∙ longer_longer (1 + size us) (size ts) (scan sig vars k r)

  scan_term : (t : Term) → WellSorted sig vars t → (r : List ℕ) → scan sig vars 1 (prefix t ++ r) ≡ Some (size t)
  scan_term t s r =
      let a : prefix t ++ r ≡ prefix (cons t nil) ++ r = ap (λ w. w ++ r) (sym (append-nil (prefix t))) in
      ap (scan sig vars 1) a ∙ scan_terms (cons t nil) (s, tt) 0 r ∙ ap {B = Option ℕ} Some (omega arith)

  -- what is read off are terms
  pub record Reading (k : ℕ) (bs : List ℕ) (n : ℕ) : Type 0 where
    pub terms : Terms
    pub rest : List ℕ
    pub count : how_many terms ≡ k
    pub sorted : WellSorted sig vars terms
    pub form : prefix terms ++ rest ≡ bs
    pub long : size terms ≡ n

  sorted_join : (ts us : Terms) → WellSorted sig vars (join ts us) → WellSorted sig vars ts × WellSorted sig vars us
  sorted_join nil us s = (tt, s)
  sorted_join (cons t ts) us s = let p = sorted_join ts us s.1 in ((s.0, p.0), p.1)

  size_join : (ts us : Terms) → size (join ts us) ≡ size ts + size us
  size_join nil us = omega arith
  size_join (cons t ts) us = let h = size_join ts us in omega arith

  -- the byte b before the terms that it owes, and others
  reading_node : (k a b m : ℕ) (bs : List ℕ) → b < 128 → sig b ≡ Some a → (r : Reading (k + a) bs m) → Parted r.terms a k → Reading (suc k) (b ∷ bs) (1 + m)
  reading_node k a b m bs h e r p =
      let s = sorted_join p.front p.back (subst (WellSorted sig vars) p.is r.sorted) in
      let f : prefix r.terms ≡ prefix p.front ++ prefix p.back = ap prefix p.is ∙ prefix_join p.front p.back in
      let z : size r.terms ≡ size p.front + size p.back = ap size p.is ∙ size_join p.front p.back in
      let l = r.long in
      let c = p.back_many in
      record {
        terms = cons (node b p.front) p.back;
        rest = r.rest;
        count = omega arith;
        sorted = ((h, e ∙ ap {B = Option ℕ} Some (sym p.front_many), s.0), s.1);
        form = ap (λ w. b ∷ w) (ap (λ w. w ++ r.rest) (sym f) ∙ r.form);
        long = omega arith;
      }

  reading_var : (k b m : ℕ) (bs : List ℕ) → 128 ≤ b → b < 128 + vars → Reading k bs m → Reading (suc k) (b ∷ bs) (1 + m)
  reading_var k b m bs h v r =
      let l = r.long in
      let c = r.count in
      record {
        terms = cons (var b) r.terms;
        rest = r.rest;
        count = omega arith;
        sorted = ((h, v), r.sorted);
        form = ap (λ w. b ∷ w) r.form;
        long = omega arith;
      }

  reading_more : (k a b m : ℕ) (bs : List ℕ) → owes sig vars b ≡ Some a → Reading (k + a) bs m → Reading (suc k) (b ∷ bs) (1 + m)
  reading_more k a b m bs e r =
      elim (owes_cases b a e) [
        | inl h ↦ reading_node k a b m bs h.0 h.1 r (parted a k r.terms (omega (arith, r.count)))
        | inr h ↦ let z : k + a ≡ k = omega arith in reading_var k b m bs h.0 h.1 (subst (λ n. Reading n bs m) z r)
      ]

  scan_reads : (k : ℕ) (bs : List ℕ) (n : ℕ) → scan sig vars k bs ≡ Some n → Reading k bs n
  scan_reads zero bs n e = record { terms = nil; rest = bs; count = refl; sorted = tt; form = refl; long = cc }
  scan_reads (suc k) [] n e = absurd (none-some _ e)
  scan_reads (suc k) (b ∷ bs) n e =
      elim (option_cases (owes sig vars b)) [
        | inl p ↦
            let step : scan sig vars (suc k) (b ∷ bs) ≡ longer 1 (scan sig vars (k + p.0) bs) = scan_more (suc k) (k + p.0) b p.0 bs (omega arith) p.1 (omega arith) in
            elim (option_cases (scan sig vars (k + p.0) bs)) [
              | inl q ↦ subst (Reading (suc k) (b ∷ bs)) (some_same (ap (longer 1) (sym q.1) ∙ sym step ∙ e)) (reading_more k p.0 b q.0 bs p.1 (scan_reads (k + p.0) bs q.0 q.1))
              | inr z ↦ absurd (none-some _ (sym (ap (longer 1) z) ∙ sym step ∙ e))
            ]
        | inr z ↦ absurd (none-some _ (sym (scan_stop (suc k) b bs (omega arith) z) ∙ e))
      ]

  -- each term has a byte at least
  pub scan_few : (k : ℕ) (bs : List ℕ) → length bs < k → scan sig vars k bs ≡ None
  scan_few zero bs h = absurd (omega arith)
  scan_few (suc k) [] h = refl
  scan_few (suc k) (b ∷ bs) h =
      elim (option_cases (owes sig vars b)) [
        | inl p ↦ scan_more (suc k) (k + p.0) b p.0 bs (omega arith) p.1 (omega arith) ∙ ap (longer 1) (scan_few (k + p.0) bs (omega arith))
        | inr z ↦ scan_stop (suc k) b bs (omega arith) z
      ]

  begins_one : (bs : List ℕ) (n : ℕ) → (r : Reading 1 bs n) → (ts : Terms) → ts ≡ r.terms → FirstTerm sig vars bs (Some n)
  begins_one bs n r nil e = absurd (omega (arith, ap how_many e, r.count))
  begins_one bs n r (cons t (cons u us)) e = absurd (omega (arith, ap how_many e, r.count))
  begins_one bs n r (cons t nil) e =
      let f : prefix t ≡ prefix r.terms = sym (append-nil (prefix t)) ∙ ap prefix e in
      let z : size t + 0 ≡ size r.terms = ap size e in
      let l = r.long in (
        t,
        record { sorted = (subst (WellSorted sig vars) (sym e) r.sorted).0; rest = r.rest; form = ap (λ w. w ++ r.rest) f ∙ r.form },
        omega arith,
      )

  -- reading off one term finds the term that begins the bytes
  pub first_is : (bs : List ℕ) (o : Option ℕ) → scan sig vars 1 bs ≡ o → FirstTerm sig vars bs o
  first_is bs (Some n) e = let r = scan_reads 1 bs n e in begins_one bs n r r.terms refl
  first_is bs None e = λ t b. none-some _ (sym e ∙ ap (scan sig vars 1) (sym b.form) ∙ scan_term t b.sorted b.rest)

  -- The step of a loop that has come to the place i and owes k terms: `o` is the length of all, `longer i` of the length of what is left.
  module _ (o : Option ℕ) (bs : List ℕ) (i k : ℕ) (inv : o ≡ longer i (scan sig vars k (drop i bs))) where
    pub step_more : (a : ℕ) → i < length bs → 0 < k → owes sig vars (get_or bs i 0) ≡ Some a → o ≡ longer (i + 1) (scan sig vars (k - 1 + a) (drop (i + 1) bs))
    step_more a h p e =
        inv ∙ ap (λ w. longer i (scan sig vars k w)) (drop_more bs i 0 h)
        ∙ ap (longer i) (scan_more k (k - 1 + a) (get_or bs i 0) a (drop (i + 1) bs) p e (omega arith))
        ∙ longer_longer i 1 (scan sig vars (k - 1 + a) (drop (i + 1) bs))

    pub step_stop : i < length bs → 0 < k → owes sig vars (get_or bs i 0) ≡ None → o ≡ None
    step_stop h p e =
        inv ∙ ap (λ w. longer i (scan sig vars k w)) (drop_more bs i 0 h) ∙ ap (longer i) (scan_stop k (get_or bs i 0) (drop (i + 1) bs) p e)

    pub step_few : i ≤ length bs → length bs < i + k → o ≡ None
    step_few g h = inv ∙ ap (longer i) (scan_few k (drop i bs) (omega (arith, length-drop i bs)))

    pub step_end : k ≡ 0 → o ≡ Some i
    step_end e = inv ∙ ap (λ m. longer i (scan sig vars m (drop i bs))) e ∙ ap {B = Option ℕ} Some (omega arith)
