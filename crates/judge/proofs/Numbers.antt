-- Triples by their numbers.
use Rattle.std.proofs.Common.{◌≡◌, ℕ, ◌+◌, ◌*◌, ◌<◌, ◌≤◌, ◌⊎◌, ◌↔◌, List, length, Some, None, Option, subst, inl, inr, arith}
use mathlib.Core.HLevel.{×_prop, Unit-prop}
use mathlib.Core.Logic.{∥∥₁_elim}
use native.Mathlib.Bridge.{le_prop}
use Rattle.std.proofs.lemmas.Bool.{cases_lt}
use Rattle.terms.specs.Term.{Rule}
use Rattle.rewriting.specs.Unify.{Overlap, Before}
use Rattle.book.specs.Meaning.{rules_of}
use Rattle.book.specs.declared.book.Book.{Book}
use Rattle.book.proofs.RuleSides.{held_left_size}
use Rattle.judge.proofs.Books.{few_rules}
use Rattle.judge.specs.declared.triple.Triple.{Triple}
use Rattle.judge.specs.Overlaps.{named, IsOverlap, Behind, NextOverlap, NoneLeft}
use Rattle.judge.specs.Pairs.{triple_number, Ranged, LastRanged}

pub before_number : (a b : Triple) → Ranged a → Ranged b → Before (named a) (named b) → triple_number a < triple_number b
before_number a b r s (inl h) = omega (arith, r.0, r.1, s.0, s.1, h)
before_number a b r s (inr h) = by h.1
  where
    by : (a.p < b.p) ⊎ ((a.p ≡ b.p) × (a.j < b.j)) → triple_number a < triple_number b
    by (inl l) = omega (arith, r.0, r.1, s.0, s.1, h.0, l)
    by (inr l) = omega (arith, r.0, r.1, s.0, s.1, h.0, l.0, l.1)

pub number_before : (a b : Triple) → Ranged a → Ranged b → triple_number a < triple_number b → Before (named a) (named b)
number_before a b r s h = first (cases_lt a.i b.i)
  where
    third : b.i ≤ a.i → b.p ≤ a.p → Before (named a) (named b)
    third i p = inr (omega (arith, r.0, r.1, s.0, s.1, h, i), inr (omega (arith, r.0, r.1, s.0, s.1, h, i, p), omega (arith, r.0, r.1, s.0, s.1, h, i, p)))

    second : b.i ≤ a.i → (a.p < b.p) ⊎ (b.p ≤ a.p) → Before (named a) (named b)
    second i (inl l) = inr (omega (arith, r.0, r.1, s.0, s.1, h, i), inl l)
    second i (inr l) = third i l

    first : (a.i < b.i) ⊎ (b.i ≤ a.i) → Before (named a) (named b)
    first (inl l) = inl l
    first (inr l) = second l (cases_lt a.p b.p)

-- a triple with the number of an overlap is that overlap
pub same_overlap : (rs : List Rule) (a b : Triple) → Ranged a → Ranged b → triple_number a ≡ triple_number b → IsOverlap rs a → IsOverlap rs b
same_overlap rs a b r s e o =
    let i : a.i ≡ b.i = omega (arith, r.0, r.1, s.0, s.1, e) in
    let p : a.p ≡ b.p = omega (arith, r.0, r.1, s.0, s.1, e) in
    let j : a.j ≡ b.j = omega (arith, r.0, r.1, s.0, s.1, e) in
    subst (λ k. Overlap rs b.i b.p k) j (subst (λ k. Overlap rs b.i k a.j) p (subst (λ k. Overlap rs k a.p a.j) i o))

last_ranged_prop : (last : Option Triple) → IsProp (LastRanged last)
last_ranged_prop None = Unit-prop
last_ranged_prop (Some t) = ×_prop le_prop (×_prop le_prop le_prop)

pub ranged_held : (last : Option Triple) → ∥ LastRanged last ∥₁ → LastRanged last
ranged_held last held = ∥∥₁_elim held (last_ranged_prop last) (λ r. r)

-- ── the first triple behind one ──

pub behind_some : (t u : Triple) (r : ℕ) → Ranged t → r ≡ triple_number t + 1 → Ranged u → Behind (Some t) u ↔ (r ≤ triple_number u)
behind_some t u r a e s = ((λ h. let l = before_number t u a s h in omega (arith, l, e)), λ h. number_before t u a s (omega (arith, h, e)))

-- ── the search ──

pub overlap_ranged : (b : Book) (u : Triple) → IsOverlap (rules_of b.tables.bytes.now) u → (u.i < 32) × Ranged u
overlap_ranged b u o =
    let few = few_rules b in
    (omega (arith, o.first_rule, few), (omega (arith, o.inside, held_left_size b.tables u.i o.first_rule b.holds), omega (arith, o.second_rule, few)))

-- all overlaps behind the last one have the number n or more, and all triples from n on are behind the last one
pub record Searched (rs : List Rule) (last : Option Triple) (n : ℕ) : Type 0 where
  pub not_before : (u : Triple) → IsOverlap rs u → Behind last u → n ≤ triple_number u
  pub from_here : (u : Triple) → Ranged u → n ≤ triple_number u → Behind last u

module _ (b : Book) (last : Option Triple) where
  abbrev rs : List Rule
  rs = rules_of b.tables.bytes.now

  pub search_begins : (n : ℕ) → ((u : Triple) → Ranged u → Behind last u ↔ (n ≤ triple_number u)) → Searched rs last n
  search_begins n first = record {
    not_before = λ u o h. (first u (overlap_ranged b u o).1).0 h;
    from_here = λ u s h. (first u s).1 h;
  }

  pub search_goes_on : (n : ℕ) (t : Triple) → Searched rs last n → Ranged t → triple_number t ≡ n → (IsOverlap rs t → ⊥) → Searched rs last (n + 1)
  search_goes_on n t s a e apart = record {
    not_before = λ u o h. by u o (s.not_before u o h) (cases_lt n (triple_number u));
    from_here = λ u g h. s.from_here u g (omega (arith, h));
  }
    where
      by : (u : Triple) → IsOverlap rs u → n ≤ triple_number u → (n < triple_number u) ⊎ (triple_number u ≤ n) → n + 1 ≤ triple_number u
      by u o l (inl h) = omega (arith, h)
      by u o l (inr h) = absurd (apart (same_overlap rs u t (overlap_ranged b u o).1 a (omega (arith, l, h, e)) o))

  pub search_finds : (n : ℕ) (t : Triple) → Searched rs last n → Ranged t → triple_number t ≡ n → IsOverlap rs t → NextOverlap rs last t
  search_finds n t s a e o = record {
    overlap = o;
    behind = s.from_here t a (omega (arith, e));
    least = λ u p h c. let l = before_number u t (overlap_ranged b u p).1 a c in let g = s.not_before u p h in omega (arith, l, g, e);
  }

  pub search_ends : (n : ℕ) → Searched rs last n → 1024 * length rs ≤ n → NoneLeft rs last
  search_ends n s past u o h =
      let g = s.not_before u o h in
      let r = (overlap_ranged b u o).1 in
      omega (arith, g, r.0, r.1, past, o.first_rule)
