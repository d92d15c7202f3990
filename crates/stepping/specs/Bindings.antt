-- Matching a left side with bytes: what each variable stands for.
use Rattle.std.specs.Prelude.{◌≡◌, ℕ, ◌-◌, cond, ◌⊎◌, List, [], ◌∷◌, Some, None, Option, ◌≢◌, nat_lt, slice_index_or, slice_set}
use Rattle.std.specs.Borrow.{Bor}
use Rattle.terms.specs.Term.{var, Term, Subst, sub, Occurs, size}
use Rattle.terms.specs.Prefix.{Arities, Reads}
use Rattle.stepping.specs.declared.matching.Substitution.{Substitution}
use Rattle.stepping.specs.declared.matching.Match.{Match}

-- a lent part of some bytes
abbrev pub Part : Type 0
Part = Bor (List ℕ)

-- the parts that the four variables 128, 129, .. are bound to
abbrev pub Bindings : Type 0
Bindings = List (Option Part)

-- the part that a byte is bound to; none if it is a symbol's code
abbrev pub bound_to : Bindings → ℕ → Option Part
bound_to bs b = cond (nat_lt b 128) None (slice_index_or bs (b - 128) None)

-- what stands for a byte of a right side: the part that it is bound to, and any other byte stays
abbrev pub bytes_for : ℕ → Option Part → List ℕ
bytes_for b (Some s) = s.now
bytes_for b None = b ∷ []

abbrev pub piece_of : Bindings → ℕ → List ℕ
piece_of bs b = bytes_for b (bound_to bs b)

-- What it means to bind the variable i to a part: it was free and is bound now, or its earlier part has the same bytes. It fails if these differ.
abbrev pub Binds : Bindings → ℕ → Part → Option Substitution → Type 0
Binds bs i part (Some after) =
    ((slice_index_or bs i None ≡ None) × (after.parts ≡ slice_set bs i (Some part)))
    ⊎ ((s : Part) × (slice_index_or bs i None ≡ Some s) × (s.now ≡ part.now) × (after.parts ≡ bs))
Binds bs i part None = (s : Part) × (slice_index_or bs i None ≡ Some s) × (s.now ≢ part.now)

module _ (sig : Arities) (vars : ℕ) where
  -- the bindings are those of a substitution: the part of each bound variable is the bytes of its term
  abbrev pub Agrees : Bindings → Subst → Type 0
  Agrees bs σ = (x : ℕ) (s : Part) → bound_to bs x ≡ Some s → Reads sig vars s.now (σ x)

  -- t, of n bytes, is the instance of l by the substitution of the bindings, which leaves every other variable as it is
  pub record Matched (l t : Term) (bs : Bindings) (n : ℕ) : Type 0 where
    pub instance : Subst
    pub is : sub instance l ≡ t
    pub agrees : Agrees bs instance
    pub stays : (x : ℕ) → bound_to bs x ≡ None → instance x ≡ var x
    pub occurs : (x : ℕ) (s : Part) → bound_to bs x ≡ Some s → Occurs x l
    pub long : n ≡ size t

  -- the answer of matching: the bindings, or None if t is no instance of l
  abbrev pub MatchAnswer : Term → Term → Option Match → Type 0
  MatchAnswer l t (Some m) = Matched l t m.substitution.parts m.len
  MatchAnswer l t None = (σ : Subst) → sub σ l ≢ t
