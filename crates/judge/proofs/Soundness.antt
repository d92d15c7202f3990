-- A judge that seals a book has seen every overlap join, so that the book's rules are convergent.
use Rattle.std.proofs.Common.{ℕ, List, subst}
use Rattle.terms.specs.Term.{Term, Rule}
use Rattle.terms.specs.Prefix.{Arities}
use Rattle.rewriting.specs.Relation.{Star, done, step, Joinable, Confluent, Terminating}
use Rattle.rewriting.specs.Rewrite.{Step, StepOf, Proper, RulesOf}
use Rattle.rewriting.specs.Unify.{CriticalPair, OverlapsJoin}
use Rattle.rewriting.proofs.Statements.{one_critical_pair, joined_overlaps_suffice, convergent_on_ground_terms}
use Rattle.order_theory.specs.Laws.{OrderLaws}
use Rattle.judge.specs.declared.triple.Triple.{Triple}
use Rattle.judge.specs.declared.progress.Progress.{Progress}
use Rattle.judge.specs.Overlaps.{IsOverlap, StepsWithin, none, more, JoinsWithin}
use Rattle.judge.specs.Calls.{start, Seals}
use Rattle.judge.specs.Kept.{Kept}
use Rattle.judge.specs.Runs.{SealingIsSound}
use Rattle.judge.proofs.Falling.{falling_proper, falling_terminates}
use Rattle.judge.proofs.Keeping.{kept_start, kept_run}

-- where a judge seals, each overlap joins within the limits
pub seals_join : (rs : List Rule) (s : Progress) → Kept rs s → Seals rs s → (u : Triple) → IsOverlap rs u → JoinsWithin rs u
seals_join rs s k h u o = k.settled h.all_joined u o (h.all_opened u o) (λ out. cc (h.no_ticket_out, out.0))

-- steps within the limit are a run
pub within_star : {rs : List Rule} {n : ℕ} {t u : Term} → StepsWithin rs n t u → Star (Step rs) t u
within_star none = done
within_star (more s h r) = step s (within_star r)

-- an overlap that joins within the limits joins, whichever critical pair of it is taken
pub joins_joinable : (rs : List Rule) → Proper rs → (t : Triple) (peak outer inner : Term) → CriticalPair rs t.i t.p t.j peak outer inner → JoinsWithin rs t → Joinable (Step rs) outer inner
joins_joinable rs proper t peak outer inner c w =
    let e = one_critical_pair rs proper t.i t.p t.j w.peak w.outer w.inner peak outer inner w.fits.pair c in (
      w.end,
      subst (λ (x : Term). Star (Step rs) x w.end) e.1 (within_star w.outer_joins),
      subst (λ (x : Term). Star (Step rs) x w.end) e.2 (within_star w.inner_joins),
    )

pub overlaps_join : (rs : List Rule) → Proper rs → ((t : Triple) → IsOverlap rs t → JoinsWithin rs t) → OverlapsJoin rs
overlaps_join rs proper all i p j peak outer inner c =
    let t : Triple = record { i = i; p = p; j = j } in
    joins_joinable rs proper t peak outer inner c (all t c.overlap)

pub sealed_convergent : (sig : Arities) (rs : List Rule) (s : Progress) → RulesOf sig 4 rs → Proper rs → Terminating (StepOf sig 8 rs) → Kept rs s → Seals rs s → Confluent (StepOf sig 8 rs)
sealed_convergent sig rs s rules proper ends k h = joined_overlaps_suffice sig 8 rs rules proper ends (overlaps_join rs proper (seals_join rs s k h))

pub sealing_is_sound : (order : Arities) (grade : List ℕ → List ℕ → ℕ) (over : Term → Term → Type 0) → OrderLaws order grade over → (sig : Arities) (rs : List Rule) → RulesOf sig 4 rs → SealingIsSound order grade sig rs
sealing_is_sound order grade over laws sig rs rules calls h =
    let proper = falling_proper order grade sig rs h.oriented rules in
    let ends = falling_terminates order grade over laws sig rs h.oriented rules in
    let kept = kept_run rs calls start h.end (kept_start rs) h.run in
    convergent_on_ground_terms sig rs rules proper ends (sealed_convergent sig rs h.end rules proper ends kept h.seals)
