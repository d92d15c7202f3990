-- Signatures, the terms of a signature, and their bytes in prefix form.
use Rattle.std.specs.Prelude.{◌≡◌, ℕ, zero, suc, ◌+◌, ◌<◌, ◌≤◌, cond, List, [], ◌∷◌, ◌++◌, Some, None, Option, nat_lt}
use Rattle.terms.specs.Term.{Kind, Tree, var, node, nil, cons, Term, Terms, how_many, size, Subst}

-- a signature: the arity of each code that is a symbol's, and None for every other number
abbrev pub Arities : Type 0
Arities = ℕ → Option ℕ

-- The prefix form: a symbol's code stands before its arguments, and a variable stands for itself.
abbrev pub prefix : {k : Kind} → Tree k → List ℕ
prefix (var x) = x ∷ []
prefix (node f ts) = f ∷ prefix ts
prefix nil = []
prefix (cons t ts) = prefix t ++ prefix ts

-- each byte of a list replaced by the bytes that h gives for it
abbrev pub expand : (ℕ → List ℕ) → List ℕ → List ℕ
expand h [] = []
expand h (b ∷ bs) = h b ++ expand h bs

-- the image of a byte under a substitution: a symbol's code stays, a variable becomes the bytes of its term
abbrev pub image : Subst → ℕ → List ℕ
image σ b = cond (nat_lt b 128) (b ∷ []) (prefix (σ b))

module _ (sig : Arities) (vars : ℕ) where
  -- t is a term of the signature with the first `vars` variables: codes are below 128 and have as many
  -- arguments as their arity says, and the variables are the numbers 128, 129, ..
  abbrev pub WellSorted : {k : Kind} → Tree k → Type 0
  WellSorted (var x) = (128 ≤ x) × (x < 128 + vars)
  WellSorted (node f ts) = (f < 128) × (sig f ≡ Some (how_many ts)) × WellSorted ts
  WellSorted nil = Unit {0}
  WellSorted (cons t ts) = WellSorted t × WellSorted ts

  -- the bytes bs are the prefix form of the term t of the signature
  pub record Reads (bs : List ℕ) (t : Term) : Type 0 where
    pub sorted : WellSorted t
    pub form : prefix t ≡ bs

  -- the bytes bs are exactly one term of the signature
  abbrev pub IsTerm : List ℕ → Type 0
  IsTerm bs = (t : Term) × Reads bs t

  -- a term of the signature, which the bytes bs begin with
  pub record Begins (bs : List ℕ) (t : Term) : Type 0 where
    pub sorted : WellSorted t
    pub rest : List ℕ
    pub form : prefix t ++ rest ≡ bs

  -- The first term in bs has n bytes; or no term of the signature begins bs.
  abbrev pub FirstTerm : List ℕ → Option ℕ → Type 0
  FirstTerm bs (Some n) = (t : Term) × Begins bs t × (size t ≡ n)
  FirstTerm bs None = (t : Term) → Begins bs t → ⊥

-- ── the term that bytes read as ──

-- the first n of a list of terms, and those behind them
abbrev pub front : ℕ → Terms → Terms
front zero ts = nil
front (suc n) nil = nil
front (suc n) (cons t ts) = cons t (front n ts)

abbrev pub behind : ℕ → Terms → Terms
behind zero ts = ts
behind (suc n) nil = nil
behind (suc n) (cons t ts) = behind n ts

-- one byte before some terms: a symbol's code takes as many of them as its arity says, any other byte is a variable
abbrev pub put_before : ℕ → Option ℕ → Terms → Terms
put_before b (Some n) ts = cons (node b (front n ts)) (behind n ts)
put_before b None ts = cons (var b) ts

-- the terms that bytes read as, from the last byte to the first
abbrev pub terms_of : Arities → List ℕ → Terms
terms_of sig [] = nil
terms_of sig (b ∷ bs) = put_before b (cond (nat_lt b 128) (sig b) None) (terms_of sig bs)

abbrev pub head_term : Terms → Term
head_term nil = var 0
head_term (cons t ts) = t

-- the term t with the prefix form bs; of bytes that are no term it means nothing
abbrev pub term_of : Arities → List ℕ → Term
term_of sig bs = head_term (terms_of sig bs)
