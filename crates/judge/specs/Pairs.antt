-- What is found out about a triple: whether it names an overlap, and its peak and sides in prefix form.
use Rattle.std.specs.Prelude.{◌≡◌, ℕ, ◌+◌, ◌*◌, ◌<◌, ◌≤◌, List, ◌++◌, length, drop, Some, None, Option, Result, Ok, Err}
use Rattle.terms.specs.Term.{Term, Rule, size}
use Rattle.terms.specs.Prefix.{Arities, WellSorted, Reads, prefix}
use Rattle.rewriting.specs.Rewrite.{Proper}
use Rattle.unification.specs.declared.critical.CriticalPair.{CriticalPair}
use Rattle.unification.specs.declared.critical.NoPair.{NoPair}
use Rattle.unification.specs.declared.critical.NoPair.TheVariants.{Malformed, Apart, TooLong}
use Rattle.unification.specs.Written.{bytes_of}
use Rattle.judge.specs.declared.triple.Triple.{Triple}
use Rattle.judge.specs.declared.progress.Progress.{Progress}
use Rattle.judge.specs.declared.fault.SidesFault.{SidesFault}
use Rattle.judge.specs.declared.fault.SidesFault.TheVariants.{OtherTicket, ShortBuffer}
use Rattle.judge.specs.Overlaps.{IsOverlap, Fits, OverlapFits}
use Rattle.judge.specs.Calls.{IsOut}

-- the bytes of the peak and the sides of an overlap; the sides are terms of the signature if no rule has a new variable on its right
pub record PairWritten (sig : Arities) (rs : List Rule) (t : Triple) (pair : CriticalPair) : Type 0 where
  pub peak : Term
  pub outer : Term
  pub inner : Term
  pub fits : Fits rs t peak outer inner
  pub outer_bytes : bytes_of pair.outer ≡ prefix outer
  pub inner_bytes : bytes_of pair.inner ≡ prefix inner
  pub sorted : Proper rs → WellSorted sig 8 outer × WellSorted sig 8 inner

-- the pair of the overlap that is out: its sides are terms of the signature
pub record PairOut (sig : Arities) (rs : List Rule) (s : Progress) (t : Triple) (pair : CriticalPair) : Type 0 where
  pub is_out : IsOut s t
  pub peak : Term
  pub outer : Term
  pub inner : Term
  pub fits : Fits rs t peak outer inner
  pub outer_reads : Reads sig 8 (bytes_of pair.outer) outer
  pub inner_reads : Reads sig 8 (bytes_of pair.inner) inner

-- what is answered for a triple
abbrev pub PairAnswer : Arities → List Rule → Triple → Result CriticalPair NoPair → Type 0
PairAnswer sig rs t (Err Malformed) = IsOverlap rs t → ⊥
PairAnswer sig rs t (Err Apart) = IsOverlap rs t → ⊥
PairAnswer sig rs t (Err TooLong) = IsOverlap rs t × (OverlapFits rs t → ⊥)
PairAnswer sig rs t (Ok pair) = IsOverlap rs t × PairWritten sig rs t pair

-- the triples in ascending sequence, numbered, where p and j are below 32
abbrev pub triple_number : Triple → ℕ
triple_number t = 1024 * t.i + (32 * t.p + t.j)

abbrev pub Ranged : Triple → Type 0
Ranged t = (t.p < 32) × (t.j < 32)

-- all three are, of the one opened last, if any
abbrev pub LastRanged : Option Triple → Type 0
LastRanged None = Unit {0}
LastRanged (Some t) = (t.i < 32) × Ranged t

-- ── what the call `sides` does ──

-- the shortest buffer
abbrev pub buffer_least : ℕ
buffer_least = 255

-- the sides of the overlap that is out stand at the front of the two buffers, and the bytes behind stay
pub record SidesLaid (rs : List Rule) (s : Progress) (t : Triple) (outer_before inner_before outer_after inner_after : List ℕ) (m n : ℕ) : Type 0 where
  pub is_out : IsOut s t
  pub outer_suffices : buffer_least ≤ length outer_before
  pub inner_suffices : buffer_least ≤ length inner_before
  pub peak : Term
  pub outer : Term
  pub inner : Term
  pub fits : Fits rs t peak outer inner
  pub outer_length : m ≡ size outer
  pub inner_length : n ≡ size inner
  pub outer_laid : outer_after ≡ prefix outer ++ drop m outer_before
  pub inner_laid : inner_after ≡ prefix inner ++ drop n inner_before

abbrev pub SidesRefused : Progress → Triple → ℕ → ℕ → SidesFault → Type 0
SidesRefused s t outer_long inner_long OtherTicket = IsOut s t → ⊥
SidesRefused s t outer_long inner_long ShortBuffer = IsOut s t × ((buffer_least ≤ outer_long) × (buffer_least ≤ inner_long) → ⊥)
