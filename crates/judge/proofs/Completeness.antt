-- If every overlap of a book joins within the limits, a run of judge calls seals it.
use Rattle.std.proofs.Common.{◌≡◌, ℕ, ◌+◌, ◌*◌, ◌<◌, ◌≤◌, ◌⊎◌, List, [], ◌∷◌, length, Some, None, Option, sym, refl, ◌∙◌, subst, inl, inr, arith}
use Rattle.terms.specs.Term.{Term, Rule, rule_at, sub, size}
use Rattle.terms.specs.Prefix.{Arities}
use Rattle.terms.specs.Place.{place}
use Rattle.terms.proofs.Places.{place_below}
use Rattle.rewriting.specs.Rewrite.{Step}
use Rattle.rewriting.specs.Unify.{Overlap, Before, AllBehind, Ascending, Listed}
use Rattle.rewriting.specs.Unify as unify
use Rattle.rewriting.proofs.Statements.{one_overlap_list}
use Rattle.judge.specs.declared.triple.Triple.{Triple}
use Rattle.judge.specs.declared.progress.Progress.{Progress}
use Rattle.judge.specs.Overlaps.{named, IsOverlap, Behind, NextOverlap, most_symbols, StepsWithin, none, more, JoinsWithin, Leads}
use Rattle.judge.specs.Calls.{start, opened, page_least, joined, Opens, Shows, Settles, Seals}
use Rattle.judge.specs.Runs.{Call, next, show, settle, AllBytes, InBytes, Run, SealingIsComplete}
use Rattle.judge.proofs.Keeping.{kept_start, kept_run}
use Rattle.judge.proofs.Soundness.{seals_join}

-- ── the sequence of triples ──

pub before_through : (a b c : unify.Triple) → Before a b → Before b c → Before a c
before_through a b c (inl x) (inl y) = inl (omega arith)
before_through a b c (inl x) (inr y) = inl (omega (arith, y.0))
before_through a b c (inr x) (inl y) = inl (omega (arith, x.0))
before_through a b c (inr x) (inr y) = inr (x.0 ∙ y.0, go x.1 y.1)
  where
    go : (a.p < b.p) ⊎ ((a.p ≡ b.p) × (a.j < b.j)) → (b.p < c.p) ⊎ ((b.p ≡ c.p) × (b.j < c.j)) → (a.p < c.p) ⊎ ((a.p ≡ c.p) × (a.j < c.j))
    go (inl u) (inl v) = inl (omega arith)
    go (inl u) (inr v) = inl (omega (arith, v.0))
    go (inr u) (inl v) = inl (omega (arith, u.0))
    go (inr u) (inr v) = inr (u.0 ∙ v.0, omega (arith, u.1, v.1))

pub not_before_itself : (a : unify.Triple) → Before a a → ⊥
not_before_itself a (inl x) = omega arith
not_before_itself a (inr x) = go x.1
  where
    go : (a.p < a.p) ⊎ ((a.p ≡ a.p) × (a.j < a.j)) → ⊥
    go (inl u) = omega arith
    go (inr u) = omega (arith, u.1)

-- what is listed behind a comes behind a
behind_listed : (a : unify.Triple) (bs : List unify.Triple) → AllBehind a bs → (b : unify.Triple) → Listed b bs → Before a b
behind_listed a (c ∷ bs) h b (inl e) = subst (Before a) (sym e) h.0
behind_listed a (c ∷ bs) h b (inr l) = behind_listed a bs h.1 b l
behind_listed a [] h b l = absurd l

behind_through : (last : Option Triple) (t u : Triple) → Behind last t → Before (named t) (named u) → Behind last u
behind_through None t u b c = tt
behind_through (Some a) t u b c = before_through (named a) (named t) (named u) b c

-- ── steps told by bytes ──

pub record Told (rs : List Rule) (n : ℕ) (t u : Term) : Type 0 where
  pub steps : List ℕ
  pub two_each : length steps ≡ 2 * n
  pub bytes : AllBytes steps
  pub leads : Leads rs steps t u

-- the place of a step is inside of the term
place_inside : {rs : List Rule} {t u : Term} (s : Step rs t u) → place s.context < size t
place_inside {rs} s = subst (λ w. place s.context < size w) (sym s.before) (place_below s.context (sub s.instance (rule_at rs s.number).left))

told_more : {rs : List Rule} {n : ℕ} {t u v : Term} → length rs ≤ 256 → size t ≤ most_symbols → Step rs t u → size u ≤ most_symbols → Told rs n u v → Told rs (1 + n) t v
told_more {u = u} few short s h r = record {
  steps = s.number ∷ (place s.context ∷ r.steps);
  two_each = omega (arith, r.two_each);
  bytes = (omega (arith, few, s.is_rule), (omega (arith, short, place_inside s), r.bytes));
  leads = (u, record { step = s; rule_is = refl; place_is = refl }, h, r.leads);
}

-- steps within the limit can be told, by two bytes for each
pub told : {rs : List Rule} {n : ℕ} {t u : Term} → length rs ≤ 256 → size t ≤ most_symbols → StepsWithin rs n t u → Told rs n t u
told few short none = record { steps = []; two_each = omega arith; bytes = tt; leads = refl }
told few short (more s h r) = told_more few short s h (told few h r)

-- ── the run ──

-- some calls lead from s to a judge that seals
pub record Sealable (rs : List Rule) (s : Progress) : Type 0 where
  pub calls : List Call
  pub in_bytes : InBytes calls
  pub end : Progress
  pub run : Run rs calls s end
  pub seals : Seals rs end

-- a judge that has opened and settled the overlaps up to `last`, all of them joined
abbrev pub joined_up_to : Option Triple → Progress
joined_up_to last = record { last = last; ticket = None; unjoined = None }

abbrev triple : unify.Triple → Triple
triple a = record { i = a.i; p = a.p; j = a.j }

-- one round: the next overlap is opened, shown and settled
pub round : (rs : List Rule) → length rs ≤ 256 → (last : Option Triple) (t : Triple) → NextOverlap rs last t → JoinsWithin rs t → Sealable rs (joined_up_to (Some t)) → Sealable rs (joined_up_to last)
round rs few last t n w r =
    let out : Progress = opened (joined_up_to last) t in
    let shown : Progress = joined out in
    let o = told few w.fits.outer_fits w.outer_joins in
    let q = told few w.fits.inner_fits w.inner_joins in
    let opens : Opens rs (joined_up_to last) t out = record { no_ticket_out = refl; is_next = n; fits = (w.peak, w.outer, w.inner, w.fits); becomes = refl } in
    let shows : Shows rs out t o.steps q.steps page_least shown = record {
      page_suffices = omega arith;
      is_out = (refl, refl);
      outer_fits = (w.outer_steps, o.two_each, w.few_outer);
      inner_fits = (w.inner_steps, q.two_each, w.few_inner);
      peak = w.peak;
      outer = w.outer;
      inner = w.inner;
      sides = w.fits;
      end = w.end;
      outer_leads = o.leads;
      inner_leads = q.leads;
      becomes = refl;
    } in
    let settles : Settles shown t (joined_up_to (Some t)) = record { is_out = (refl, refl); becomes = refl } in
    record {
      calls = next ∷ (show t o.steps q.steps page_least ∷ (settle t ∷ r.calls));
      in_bytes = (o.bytes, q.bytes, r.in_bytes);
      end = r.end;
      run = (out, inl (t, opens), (shown, inl shows, (joined_up_to (Some t), inl settles, r.run)));
      seals = r.seals;
    }

module _ (rs : List Rule) (few : length rs ≤ 256) (all : (t : Triple) → IsOverlap rs t → JoinsWithin rs t) where
  -- the rounds of the overlaps that are left: exactly those of an ascending list
  pub rounds : (us : List unify.Triple) (last : Option Triple) → Ascending us → ((b : unify.Triple) → Listed b us → Overlap rs b.i b.p b.j) → ((b : unify.Triple) → Listed b us → Behind last (triple b)) → ((u : Triple) → IsOverlap rs u → Behind last u → Listed (named u) us) → Sealable rs (joined_up_to last)
  rounds [] last up overlaps behind left = record {
    calls = [];
    in_bytes = tt;
    end = joined_up_to last;
    run = refl;
    seals = record { no_ticket_out = refl; all_opened = left; all_joined = refl };
  }
  rounds (a ∷ us) last up overlaps behind left =
      let t : Triple = triple a in
      let o : IsOverlap rs t = overlaps a (inl refl) in
      round rs few last t
      (record { overlap = o; behind = behind a (inl refl); least = λ u ov b before. least u before (left u ov b) })
      (all t o)
      (rounds us (Some t) up.1
      (λ b l. overlaps b (inr l))
      (λ b l. behind_listed a us up.0 b l)
      (λ u ov b. rest u b (left u ov (behind_through last t u (behind a (inl refl)) b))))
    where
      least : (u : Triple) → Before (named u) a → Listed (named u) (a ∷ us) → ⊥
      least u before (inl e) = not_before_itself a (subst (λ (x : unify.Triple). Before x a) e before)
      least u before (inr l) = not_before_itself a (before_through a (named u) a (behind_listed a us up.0 (named u) l) before)

      rest : (u : Triple) → Before a (named u) → Listed (named u) (a ∷ us) → Listed (named u) us
      rest u before (inl e) = absurd (not_before_itself a (subst (λ (x : unify.Triple). Before a x) e before))
      rest u before (inr l) = l

pub all_joining_seals : (rs : List Rule) → length rs ≤ 256 → ((t : Triple) → IsOverlap rs t → JoinsWithin rs t) → Sealable rs start
all_joining_seals rs few all =
    let ts = (one_overlap_list rs).0 in
    rounds rs few all ts.0 None ts.1.ascending ts.1.overlaps (λ b l. tt) (λ u o b. ts.1.listed (named u) o)

pub sealing_is_complete : (order : Arities) (grade : List ℕ → List ℕ → ℕ) (sig : Arities) (rs : List Rule) → length rs ≤ 256 → SealingIsComplete order grade sig rs
sealing_is_complete order grade sig rs few same = (
  (λ x. let h = x.1 in (h.oriented.all_over, seals_join rs h.end (kept_run rs x.0 start h.end (kept_start rs) h.run) h.seals)),
  (λ x.
      let r = all_joining_seals rs few x.1 in
      (r.calls, record { in_bytes = r.in_bytes; oriented = record { same_signature = same; all_over = x.0 }; end = r.end; run = r.run; seals = r.seals })),
)
