-- What a judge keeps of its overlaps holds at its beginning, and each call keeps it.
use Rattle.std.proofs.Common.{◌≡◌, ℕ, ◌+◌, ◌*◌, ◌<◌, ◌⊎◌, List, [], ◌∷◌, length, Some, None, Option, IsSome, sym, refl, ap, ◌∙◌, subst, inl, inr, arith}
use Rattle.std.proofs.lemmas.Option.{same_Some}
use native.Mathlib.Decide.{dec_lt, ℕ_discrete}
use Rattle.terms.specs.Term.{Term, Rule}
use Rattle.rewriting.specs.Unify.{Before}
use Rattle.judge.specs.declared.triple.Triple.{Triple}
use Rattle.judge.specs.declared.progress.Progress.{Progress}
use Rattle.judge.specs.declared.progress.Stage.{Stage}
use Rattle.judge.specs.declared.progress.Stage.TheVariants.{Opened, Shown}
use Rattle.judge.specs.Overlaps.{named, IsOverlap, Behind, OverlapFits, StepsWithin, none, more, JoinsWithin, Leads}
use Rattle.judge.specs.Calls.{start, IsOut, Opens, Shows, first_left, Settles}
use Rattle.judge.specs.Kept.{Kept}
use Rattle.judge.specs.Runs.{Call, next, show, settle, seal, Moves, Run}

-- ── triples ──

same_triple : (a b : Triple) → a.i ≡ b.i → a.p ≡ b.p → a.j ≡ b.j → a ≡ b
same_triple a b x y z =
    subst (λ (n : ℕ). ◌≡◌ {A = Triple} a (record { i = b.i; p = b.p; j = n })) z
    (subst (λ (n : ℕ). ◌≡◌ {A = Triple} a (record { i = b.i; p = n; j = a.j })) y
    (subst (λ (n : ℕ). ◌≡◌ {A = Triple} a (record { i = n; p = a.p; j = a.j })) x refl))

same_triple? : (a b : Triple) → Dec (a ≡ b)
same_triple? a b = by (ℕ_discrete a.i b.i) (ℕ_discrete a.p b.p) (ℕ_discrete a.j b.j)
  where
    by : Dec (a.i ≡ b.i) → Dec (a.p ≡ b.p) → Dec (a.j ≡ b.j) → Dec (a ≡ b)
    by (no n) y z = no (λ e. n (ap (λ (t : Triple). t.i) e))
    by (yes x) (no n) z = no (λ e. n (ap (λ (t : Triple). t.p) e))
    by (yes x) (yes y) (no n) = no (λ e. n (ap (λ (t : Triple). t.j) e))
    by (yes x) (yes y) (yes z) = yes (same_triple a b x y z)

-- of two numbers one is smaller, or they are equal
sides_of : (m n : ℕ) → (m < n) ⊎ ((m ≡ n) ⊎ (n < m))
sides_of m n = by (dec_lt m n) (dec_lt n m)
  where
    by : Dec (m < n) → Dec (n < m) → (m < n) ⊎ ((m ≡ n) ⊎ (n < m))
    by (yes h) k = inl h
    by (no h) (yes k) = inr (inr k)
    by (no h) (no k) = inr (inl (omega arith))

-- of two triples one comes before the other, or they are equal
pub in_sequence : (a b : Triple) → Before (named a) (named b) ⊎ ((a ≡ b) ⊎ Before (named b) (named a))
in_sequence a b = by (sides_of a.i b.i) (sides_of a.p b.p) (sides_of a.j b.j)
  where
    by : (a.i < b.i) ⊎ ((a.i ≡ b.i) ⊎ (b.i < a.i)) → (a.p < b.p) ⊎ ((a.p ≡ b.p) ⊎ (b.p < a.p)) → (a.j < b.j) ⊎ ((a.j ≡ b.j) ⊎ (b.j < a.j)) → Before (named a) (named b) ⊎ ((a ≡ b) ⊎ Before (named b) (named a))
    by (inl x) y z = inl (inl x)
    by (inr (inr x)) y z = inr (inr (inl x))
    by (inr (inl x)) (inl y) z = inl (inr (x, inl y))
    by (inr (inl x)) (inr (inr y)) z = inr (inr (inr (sym x, inl y)))
    by (inr (inl x)) (inr (inl y)) (inl z) = inl (inr (x, inr (y, z)))
    by (inr (inl x)) (inr (inl y)) (inr (inr z)) = inr (inr (inr (sym x, inr (sym y, z))))
    by (inr (inl x)) (inr (inl y)) (inr (inl z)) = inr (inl (same_triple a b x y z))

-- ── the calls ──

pub kept_start : (rs : List Rule) → Kept rs start
kept_start rs = record {
  out_of = λ e. absurd cc;
  settled = λ e u o before out. absurd (before tt);
  shown_joins = λ e u o. absurd cc;
}

-- an overlap is opened: those before it, all that were opened earlier among them, were settled
pub kept_opens : (rs : List Rule) (s after : Progress) (t : Triple) → Kept rs s → Opens rs s t after → Kept rs after
kept_opens rs s after t k o =
    subst (Kept rs) (sym o.becomes)
    (record {
      out_of = λ e. (t, refl, o.is_next.overlap, o.fits);
      settled = λ e u ov before out. by e u ov before out (in_sequence t u);
      shown_joins = λ e u h. absurd cc;
    })
  where
    by : s.unjoined ≡ None → (u : Triple) → IsOverlap rs u → (Before (named t) (named u) → ⊥) → (IsSome {T = Stage} (Some Opened) × (◌≡◌ {A = Option Triple} (Some t) (Some u)) → ⊥) → Before (named t) (named u) ⊎ ((t ≡ u) ⊎ Before (named u) (named t)) → JoinsWithin rs u
    by e u ov before out (inl b) = absurd (before b)
    by e u ov before out (inr (inl x)) = absurd (out (refl, ap {B = Option Triple} Some x))
    by e u ov before out (inr (inr b)) = k.settled e u ov (λ c. o.is_next.least u ov c b) (λ h. cc (o.no_ticket_out, h.0))

-- steps that are told are steps within the limit, one for each two bytes
pub leads_within : (rs : List Rule) (steps : List ℕ) (t u : Term) → Leads rs steps t u → (n : ℕ) × (length steps ≡ 2 * n) × StepsWithin rs n t u
leads_within rs [] t u l = (0, omega arith, subst (λ (x : Term). StepsWithin rs 0 t x) l none)
leads_within rs (k ∷ []) t u l = absurd l
leads_within rs (k ∷ (p ∷ steps)) t u l =
    let r = leads_within rs steps l.0 u l.3 in
    (1 + r.0, (let h = r.1 in omega arith), more l.1.step l.2 r.2)

-- what is shown joins within the limits
pub shows_join : (rs : List Rule) (s after : Progress) (t : Triple) (os is : List ℕ) (page : ℕ) → Shows rs s t os is page after → JoinsWithin rs t
shows_join rs s after t os is page h =
    let a = leads_within rs os h.outer h.end h.outer_leads in
    let b = leads_within rs is h.inner h.end h.inner_leads in
    record {
      peak = h.peak;
      outer = h.outer;
      inner = h.inner;
      fits = h.sides;
      end = h.end;
      outer_steps = a.0;
      inner_steps = b.0;
      few_outer = omega (arith, a.1, h.outer_fits.1, h.outer_fits.2);
      few_inner = omega (arith, b.1, h.inner_fits.1, h.inner_fits.2);
      outer_joins = a.2;
      inner_joins = b.2;
    }

pub kept_shows : (rs : List Rule) (s after : Progress) (t : Triple) (os is : List ℕ) (page : ℕ) → Kept rs s → Shows rs s t os is page after → Kept rs after
kept_shows rs s after t os is page k h =
    subst (Kept rs) (sym h.becomes)
    (record {
      out_of = λ e. k.out_of h.is_out.0;
      settled = λ e u o before out. k.settled e u o before (λ x. out (refl, x.1));
      shown_joins = λ e u o. subst (JoinsWithin rs) (same_Some t u (sym h.is_out.1 ∙ o.1)) (shows_join rs s after t os is page h);
    })

-- no overlap is left open only if none was before, and the one that is out was shown
shown_and_none : (stage : Option Stage) (o : Option Triple) (t : Triple) → first_left stage o t ≡ None → (stage ≡ Some Shown) × (o ≡ None)
shown_and_none (Some Shown) o t e = (refl, e)
shown_and_none (Some Opened) None t e = absurd cc
shown_and_none (Some Opened) (Some a) t e = absurd cc
shown_and_none None None t e = absurd cc
shown_and_none None (Some a) t e = absurd cc

pub kept_settles : (rs : List Rule) (s after : Progress) (t : Triple) → Kept rs s → Settles s t after → Kept rs after
kept_settles rs s after t k h =
    subst (Kept rs) (sym h.becomes)
    (record {
      out_of = λ e. absurd cc;
      settled = λ e u ov before out. by (shown_and_none s.ticket s.unjoined t e) u ov before (same_triple? t u);
      shown_joins = λ e u o. absurd cc;
    })
  where
    by : (s.ticket ≡ Some Shown) × (s.unjoined ≡ None) → (u : Triple) → IsOverlap rs u → (Behind s.last u → ⊥) → Dec (t ≡ u) → JoinsWithin rs u
    by e u ov before (yes x) = k.shown_joins e.0 u (h.is_out.0, h.is_out.1 ∙ ap {B = Option Triple} Some x)
    by e u ov before (no n) = k.settled e.1 u ov before (λ o. n (same_Some t u (sym h.is_out.1 ∙ o.1)))

-- ── runs ──

pub kept_moves : (rs : List Rule) (s after : Progress) (c : Call) → Kept rs s → Moves rs s c after → Kept rs after
kept_moves rs s after next k (inl m) = kept_opens rs s after m.0 k m.1
kept_moves rs s after next k (inr m) = subst (Kept rs) (sym m.2) k
kept_moves rs s after (show t os is page) k (inl m) = kept_shows rs s after t os is page k m
kept_moves rs s after (show t os is page) k (inr m) = subst (Kept rs) (sym m.2) k
kept_moves rs s after (settle t) k (inl m) = kept_settles rs s after t k m
kept_moves rs s after (settle t) k (inr m) = subst (Kept rs) (sym m.2) k
kept_moves rs s after seal k m = subst (Kept rs) (sym m) k

pub kept_run : (rs : List Rule) (cs : List Call) (s after : Progress) → Kept rs s → Run rs cs s after → Kept rs after
kept_run rs [] s after k r = subst (Kept rs) (sym r) k
kept_run rs (c ∷ cs) s after k r = kept_run rs cs r.0 after (kept_moves rs s r.0 c k r.1) r.2

-- the overlap that is out is within the limit
pub out_fits : (rs : List Rule) (s : Progress) (t : Triple) → Kept rs s → IsOut s t → OverlapFits rs t
out_fits rs s t k o =
    let f = k.out_of o.0 in
    subst (OverlapFits rs) (same_Some f.0 t (sym f.1 ∙ o.1)) f.3
