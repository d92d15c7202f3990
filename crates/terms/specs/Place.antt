-- Contexts, and where a part stands in a term: by its position, and by its place in the prefix form.
use Rattle.std.specs.Prelude.{◌≡◌, ℕ, zero, suc, ◌+◌, ◌-◌, ◌<◌, cond, List, [], ◌∷◌, length, drop, Some, None, Option, nat_lt}
use Rattle.terms.specs.Term.{Kind, one, many, Tree, var, node, nil, cons, Term, Terms, Subst, sub, size}
use Rattle.terms.specs.Prefix.{Arities, prefix, Reads, Begins}

-- a context: a term, or a list of terms, with a hole in the place of one part
pub data Context : Kind → Type 0 where
  hole : Context one
  under : ℕ → Context many → Context one
  head : Context one → Terms → Context many
  tail : Term → Context many → Context many

-- the term s put into the hole of C
abbrev pub plug : {k : Kind} → Context k → Term → Tree k
plug hole s = s
plug (under f C) s = node f (plug C s)
plug (head C ts) s = cons (plug C s) ts
plug (tail t C) s = cons t (plug C s)

-- a substitution carried out in a context
abbrev pub sub_context : {k : Kind} → Subst → Context k → Context k
sub_context σ hole = hole
sub_context σ (under f C) = under f (sub_context σ C)
sub_context σ (head C ts) = head (sub_context σ C) (sub σ ts)
sub_context σ (tail t C) = tail (sub σ t) (sub_context σ C)

-- a context in the hole of another
abbrev pub compose : {k : Kind} → Context k → Context one → Context k
compose hole D = D
compose (under f C) D = under f (compose C D)
compose (head C ts) D = head (compose C D) ts
compose (tail t C) D = tail t (compose C D)

-- the first number of a position, one more
abbrev pub one_later : List ℕ → List ℕ
one_later [] = []
one_later (i ∷ π) = suc i ∷ π

-- the position of the hole: which argument, from 1, is gone down into at each symbol on the way
abbrev pub position : {k : Kind} → Context k → List ℕ
position hole = []
position (under f C) = position C
position (head C ts) = 1 ∷ position C
position (tail t C) = one_later (position C)

-- the place of the hole: how many bytes of the prefix form stand before it
abbrev pub place : {k : Kind} → Context k → ℕ
place hole = 0
place (under f C) = 1 + place C
place (head C ts) = place C
place (tail t C) = size t + place C

-- the part of t at the place p, the term that starts there; past the end of t it is a variable of no meaning
abbrev pub part : {k : Kind} → Tree k → ℕ → Term
part (var x) zero = var x
part (var x) (suc p) = var 0
part (node f ts) zero = node f ts
part (node f ts) (suc p) = part ts p
part nil p = var 0
part (cons t ts) p = cond (nat_lt p (size t)) (part t p) (part ts (p - size t))

-- t with the part at the place p replaced by u; past the end nothing is replaced
abbrev pub replace : {k : Kind} → Tree k → ℕ → Term → Tree k
replace (var x) zero u = u
replace (var x) (suc p) u = var x
replace (node f ts) zero u = u
replace (node f ts) (suc p) u = node f (replace ts p u)
replace nil p u = nil
replace (cons t ts) p u = cond (nat_lt p (size t)) (cons (replace t p u) ts) (cons t (replace ts (p - size t) u))

-- the part of t at the place p, told by a context: t is C with s in its hole, and the hole is at p
pub record PartAt {k : Kind} (t : Tree k) (p : ℕ) : Type 0 where
  pub context : Context k
  pub term : Term
  pub splits : t ≡ plug context term
  pub at : place context ≡ p

module _ (sig : Arities) (vars : ℕ) where
  -- What stands at the place p of any bytes: the bytes of the term of the signature that begins there, or None if none does.
  abbrev pub TermAt : List ℕ → ℕ → Option (List ℕ) → Type 0
  TermAt bs p (Some found) = (s : Term) × Begins sig vars (drop p bs) s × (prefix s ≡ found)
  TermAt bs p None = (s : Term) → Begins sig vars (drop p bs) s → ⊥

  -- and where the bytes are one term t, it is the part of t at p
  abbrev pub PartOfTerm : List ℕ → ℕ → Option (List ℕ) → Type 0
  PartOfTerm bs p found = (t : Term) → Reads sig vars bs t → p < length bs → found ≡ Some (prefix (part t p))
