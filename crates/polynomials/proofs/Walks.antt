-- A walk through the arguments of a term, over the bytes that the term begins.
use Rattle.std.proofs.Common.{◌≡◌, ℕ, zero, suc, ◌+◌, ◌<◌, ◌≤◌, ◌≢◌, List, [], ◌∷◌, ◌++◌, length, get_or, drop, set, Some, sym, refl, ap, ◌∙◌, subst, inl, inr, append_assoc, arith, length-append, length-set, get_or-set_other, get_or-set_same}
use Rattle.std.proofs.lemmas.List.{get_or_past}
use Rattle.std.proofs.lemmas.Bool.{cases_lt, cases_eq}
use Rattle.terms.specs.Term.{Kind, Tree, var, node, nil, cons, Term, Terms, how_many}
use Rattle.terms.specs.Prefix.{Arities, prefix, WellSorted, Begins, behind, head_term}
use Rattle.polynomials.specs.Interpretation.{Throughout}
use Rattle.polynomials.specs.Coding.{cut_off}
use Rattle.polynomials.specs.Measured.{Filled}
use Rattle.polynomials.proofs.Limits.{cut_twice}

abbrev pub arguments : Term → Terms
arguments (var x) = nil
arguments (node f ts) = ts

-- the argument with the number i
abbrev pub argument : ℕ → Term → Term
argument i t = head_term (behind i (arguments t))

pub behind_more : (ts : Terms) (i : ℕ) → i < how_many ts → behind i ts ≡ cons (head_term (behind i ts)) (behind (i + 1) ts)
behind_more nil i h = absurd (omega arith)
behind_more (cons t ts) zero h = refl
behind_more (cons t ts) (suc i) h = let e : suc i + 1 ≡ suc (i + 1) = omega arith in behind_more ts i (omega arith) ∙ ap (λ j. cons (head_term (behind i ts)) (behind j (cons t ts))) (sym e)

behind_none : (ts : Terms) (i : ℕ) → i ≡ how_many ts → behind i ts ≡ nil
behind_none nil zero h = refl
behind_none nil (suc i) h = refl
behind_none (cons t ts) zero h = absurd (omega arith)
behind_none (cons t ts) (suc i) h = behind_none ts i (omega arith)

-- what holds throughout a term holds of it, and throughout each argument
module _ (P : Term → Type 0) where
  pub throughout_here : (t : Term) → Throughout P t → P t
  throughout_here (var x) a = a
  throughout_here (node f ts) a = a.0

  throughout_behind : (ts : Terms) (i : ℕ) → i < how_many ts → Throughout P ts → Throughout P (head_term (behind i ts))
  throughout_behind nil i h a = absurd (omega arith)
  throughout_behind (cons t ts) zero h a = a.0
  throughout_behind (cons t ts) (suc i) h a = throughout_behind ts i (omega arith) a.1

  pub throughout_argument : (t : Term) (i : ℕ) → i < how_many (arguments t) → Throughout P t → Throughout P (argument i t)
  throughout_argument (var x) i h a = absurd (omega arith)
  throughout_argument (node f ts) i h a = throughout_behind ts i h a.1

  pub throughout_all : {k : Kind} → ((t : Term) → P t) → (t : Tree k) → Throughout P t
  throughout_all all (var x) = all (var x)
  throughout_all all (node f ts) = (all (node f ts), throughout_all all ts)
  throughout_all all nil = tt
  throughout_all all (cons t ts) = (throughout_all all t, throughout_all all ts)

module _ (sig : Arities) (vars : ℕ) where
  sorted_behind : (ts : Terms) (i : ℕ) → WellSorted sig vars ts → WellSorted sig vars (behind i ts)
  sorted_behind nil zero w = w
  sorted_behind nil (suc i) w = w
  sorted_behind (cons t ts) zero w = w
  sorted_behind (cons t ts) (suc i) w = sorted_behind ts i w.1

  pub sorted_argument : (ts : Terms) (i : ℕ) → i < how_many ts → WellSorted sig vars ts → WellSorted sig vars (head_term (behind i ts))
  sorted_argument ts i h w = (subst (WellSorted sig vars) (behind_more ts i h) (sorted_behind ts i w)).0

  pub sorted_arguments : (t : Term) → WellSorted sig vars t → WellSorted sig vars (arguments t)
  sorted_arguments (var x) w = tt
  sorted_arguments (node f ts) w = w.2

  module _ (bytes : List ℕ) (t : Term) (begins : Begins sig vars bytes t) where
    first_byte : (u : Term) → prefix u ++ begins.rest ≡ bytes → 0 < length bytes
    first_byte (var x) e = let l = ap length e in omega arith
    first_byte (node f ts) e = let l = ap length e in omega arith

    pub some_byte : 0 < length bytes
    some_byte = first_byte t begins.form

    -- a byte from 128 on is a variable
    pub is_variable : 128 ≤ get_or bytes 0 0 → (t ≡ var (get_or bytes 0 0)) × (get_or bytes 0 0 < 128 + vars)
    is_variable h = go t begins.sorted (ap (λ bs. get_or bs 0 0) begins.form)
      where
        go : (u : Term) → WellSorted sig vars u → get_or (prefix u ++ begins.rest) 0 0 ≡ get_or bytes 0 0 → (u ≡ var (get_or bytes 0 0)) × (get_or bytes 0 0 < 128 + vars)
        go (var x) w e = (ap var e, let l = w.1 in omega arith)
        go (node f ts) w e = let l = w.0 in absurd (omega arith)

    -- and any other is a symbol
    pub is_symbol : get_or bytes 0 0 < 128 → (t ≡ node (get_or bytes 0 0) (arguments t)) × (sig (get_or bytes 0 0) ≡ Some (how_many (arguments t)))
    is_symbol h = go t begins.sorted (ap (λ bs. get_or bs 0 0) begins.form)
      where
        go : (u : Term) → WellSorted sig vars u → get_or (prefix u ++ begins.rest) 0 0 ≡ get_or bytes 0 0 → (u ≡ node (get_or bytes 0 0) (arguments u)) × (sig (get_or bytes 0 0) ≡ Some (how_many (arguments u)))
        go (var x) w e = let l = w.0 in absurd (omega arith)
        go (node f ts) w e = (ap (λ b. node b ts) e, ap sig (sym e) ∙ w.1)

    -- nothing stands behind a variable but the rest, and behind a symbol stand its arguments
    pub behind_variable : 128 ≤ get_or bytes 0 0 → drop 1 bytes ≡ begins.rest
    behind_variable h = go t begins.sorted begins.form
      where
        go : (u : Term) → WellSorted sig vars u → prefix u ++ begins.rest ≡ bytes → drop 1 bytes ≡ begins.rest
        go (var x) w form = ap (drop 1) (sym form)
        go (node f ts) w form = let l = w.0 in let e = ap (λ bs. get_or bs 0 0) form in absurd (omega arith)

    pub behind_code : get_or bytes 0 0 < 128 → drop 1 bytes ≡ prefix (arguments t) ++ begins.rest
    behind_code h = go t begins.sorted begins.form
      where
        go : (u : Term) → WellSorted sig vars u → prefix u ++ begins.rest ≡ bytes → drop 1 bytes ≡ prefix (arguments u) ++ begins.rest
        go (var x) w form = let l = w.0 in let e = ap (λ bs. get_or bs 0 0) form in absurd (omega arith)
        go (node f ts) w form = ap (drop 1) (sym form)

    module _ (arity : ℕ) (low : get_or bytes 0 0 < 128) (is : Some arity ≡ sig (get_or bytes 0 0)) where
      pub arity_many : arity ≡ how_many (arguments t)
      arity_many = let e = is ∙ (is_symbol low).1 in cc

      -- the bytes that are left begin with the next argument
      module _ (i : ℕ) (left : List ℕ) (walked : left ≡ prefix (behind i (arguments t)) ++ begins.rest) where
        abbrev pub next_begins : i < arity → Begins sig vars left (argument i t)
        next_begins h =
            let e : behind i (arguments t) ≡ cons (argument i t) (behind (i + 1) (arguments t)) = behind_more (arguments t) i (let m = arity_many in omega arith) in
            record {
              sorted = sorted_argument (arguments t) i (let m = arity_many in omega arith) (sorted_arguments t begins.sorted);
              rest = prefix (behind (i + 1) (arguments t)) ++ begins.rest;
              form = sym (walked ∙ ap (λ ts. prefix ts ++ begins.rest) e ∙ append_assoc (prefix (argument i t)) (prefix (behind (i + 1) (arguments t))) begins.rest);
            }

        -- which are fewer behind it
        pub next_shorter : i < arity → (rest : List ℕ) → rest ≡ prefix (behind (i + 1) (arguments t)) ++ begins.rest → length rest ≤ length left
        next_shorter h rest e =
            let l = ap length (next_begins h).form in
            let a = length-append (prefix (argument i t)) (prefix (behind (i + 1) (arguments t)) ++ begins.rest) in
            let r = ap length e in
            omega arith

        pub walk_end : i ≡ arity → left ≡ begins.rest
        walk_end h = walked ∙ ap (λ ts. prefix ts ++ begins.rest) (behind_none (arguments t) i (let m = arity_many in omega arith))

-- ── numbers of the arguments ──

pub filled_more : (limit : ℕ) (ns args : List ℕ) (i n : ℕ) → i < 3 → Filled limit ns args i → n ≡ cut_off limit (get_or ns i 0) → Filled limit ns (set args i n) (i + 1)
filled_more limit ns args i n h filled is = record {
  full = simp length-set filled.full;
  done = λ j l. here j l;
  zeros = λ j l. let ne : j ≢ i = omega arith in rw get_or-set_other (filled.zeros j (omega arith));
}
  where
    here : (j : ℕ) → j < i + 1 → get_or (set args i n) j 0 ≡ cut_off limit (get_or ns j 0)
    here j l =
        elim (cases_eq j i) [
          | inl e ↦ let lt : i < length args = let f = filled.full in omega arith in rw e (rw get_or-set_same is)
          | inr ne ↦ rw get_or-set_other (filled.done j (omega arith))
        ]

pub filled_alike : (limit : ℕ) (ns args : List ℕ) (i : ℕ) → Filled limit ns args i → i ≡ length ns → (j : ℕ) → cut_off limit (get_or args j 0) ≡ cut_off limit (get_or ns j 0)
filled_alike limit ns args i filled all j =
    elim (cases_lt j i) [
      | inl h ↦ ap (cut_off limit) (filled.done j h) ∙ cut_twice limit (get_or ns j 0)
      | inr h ↦ ap (cut_off limit) (filled.zeros j h ∙ sym (get_or_past ns j 0 (omega arith)))
    ]

-- the numbers of a list of terms, one for each
module _ (number : Term → ℕ) (numbers : Terms → List ℕ) (none : numbers nil ≡ []) (more : (t : Term) (ts : Terms) → numbers (cons t ts) ≡ number t ∷ numbers ts) where
  pub number_at : (ts : Terms) (i : ℕ) → i < how_many ts → get_or (numbers ts) i 0 ≡ number (head_term (behind i ts))
  number_at nil i h = absurd (omega arith)
  number_at (cons t ts) zero h = ap (λ l. get_or l 0 0) (more t ts)
  number_at (cons t ts) (suc i) h = ap (λ l. get_or l (suc i) 0) (more t ts) ∙ number_at ts i (omega arith)

  pub numbers_length : (ts : Terms) → length (numbers ts) ≡ how_many ts
  numbers_length nil = ap length none
  numbers_length (cons t ts) = ap length (more t ts) ∙ (let h = numbers_length ts in omega arith)
