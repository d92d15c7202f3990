-- What is proved of terms, their bytes and their places; each statement stands on the contract of a function of src/theorems.rt.
use Rattle.std.specs.Prelude.{◌≡◌, ℕ, ◌+◌, ◌<◌, List, [], ◌++◌, take, drop}
use Rattle.terms.specs.Term.{one, Term, Subst, sub, size}
use Rattle.terms.specs.Prefix.{Arities, prefix, expand, image, WellSorted, Reads, term_of}
use Rattle.terms.specs.Place.{Context, plug, position, place, part, replace, PartAt}

-- two terms of one signature with the same bytes are equal
abbrev pub SameBytesSameTerm : Type 0
SameBytesSameTerm = (sig : Arities) (m n : ℕ) (bs : List ℕ) (t u : Term) → Reads sig m bs t → Reads sig n bs u → t ≡ u

-- no term of a signature is a proper beginning of another
abbrev pub NoProperBeginning : Type 0
NoProperBeginning =
    (sig : Arities) (m n : ℕ) (bs more : List ℕ) (t u : Term) → Reads sig m bs t → Reads sig n (bs ++ more) u → more ≡ []

-- bytes that are one term read as that term
abbrev pub BytesReadAsTheirTerm : Type 0
BytesReadAsTheirTerm = (sig : Arities) (n : ℕ) (bs : List ℕ) (t : Term) → Reads sig n bs t → term_of sig bs ≡ t

-- the bytes of an instance are the images of the bytes, one after the other
abbrev pub InstanceByteByByte : Type 0
InstanceByteByByte =
    (sig : Arities) (n : ℕ) (σ : Subst) (t : Term) → WellSorted sig n t → prefix (sub σ t) ≡ expand (image σ) (prefix t)

-- each place of a term, below its size and no other, is that of exactly one context with a term in its hole
abbrev pub OnePartAtEachPlace : Type 0
OnePartAtEachPlace =
    (t : Term) (p : ℕ)
    → (p < size t → PartAt t p)
    × (PartAt t p → p < size t)
    × ((a b : PartAt t p) → (a.context ≡ b.context) × (a.term ≡ b.term))

-- part and replacement at a place are the term in the hole, and another term put there
abbrev pub PartsAgreeWithContexts : Type 0
PartsAgreeWithContexts =
    (t : Term) (p : ℕ) (a : PartAt t p) → (part t p ≡ a.term) × ((u : Term) → replace t p u ≡ plug a.context u)

-- the bytes of a part stand at its place, and replacing the part leaves the bytes before and behind it
abbrev pub BytesAtAPlace : Type 0
BytesAtAPlace =
    (C : Context one) (s u : Term)
    → (take (size s) (drop (place C) (prefix (plug C s))) ≡ prefix s)
    × (prefix (plug C u) ≡ take (place C) (prefix (plug C s)) ++ (prefix u ++ drop (place C + size s) (prefix (plug C s))))

-- one position of one term is one context, and so one place
abbrev pub PositionTellsThePart : Type 0
PositionTellsThePart =
    (C D : Context one) (s u : Term) → plug C s ≡ plug D u → position C ≡ position D → (C ≡ D) × (s ≡ u)
