-- Rules that fall under an order terminate.
use Rattle.std.proofs.Common.{ℕ, ◌<◌, List, [], length, refl, ◌∙◌, arith}
use mathlib.Core.WellFounded.{Acc}
use Rattle.terms.specs.Term.{Kind, Tree, var, node, nil, cons, Term, Rule, rule_at}
use Rattle.terms.specs.Prefix.{Arities, prefix, WellSorted, Reads}
use Rattle.rewriting.specs.Relation.{Terminating}
use Rattle.rewriting.specs.Rewrite.{StepOf, Proper, RulesOf}
use Rattle.rewriting.proofs.Termination.{oriented_rules_terminate}
use Rattle.order_theory.specs.Laws.{OrderLaws}
use Rattle.order_theory.proofs.Fences.{fence_keeps_the_laws, zero_is_proper}
use Rattle.judge.specs.Orient.{SameSignature, Falls}

-- signatures that are the same on bytes have the same terms
sorted_in : {k : Kind} (sig other : Arities) (n : ℕ) → SameSignature sig other → (t : Tree k) → WellSorted other n t → WellSorted sig n t
sorted_in sig other n h (var x) w = w
sorted_in sig other n h (node f ts) w = (w.0, h f (omega (arith, w.0)) ∙ w.1, sorted_in sig other n h ts w.2)
sorted_in sig other n h nil w = tt
sorted_in sig other n h (cons t ts) w = (sorted_in sig other n h t w.0, sorted_in sig other n h ts w.1)

module _ (order : Arities) (grade : List ℕ → List ℕ → ℕ) (sig : Arities) (rs : List Rule) (falls : Falls order grade sig rs) (rules : RulesOf sig 4 rs) where
  left_reads : (i : ℕ) → i < length rs → Reads order 4 (prefix (rule_at rs i).left) (rule_at rs i).left
  left_reads i h = record { sorted = sorted_in order sig 4 falls.same_signature (rule_at rs i).left (rules i h).0; form = refl }

  right_reads : (i : ℕ) → i < length rs → Reads order 4 (prefix (rule_at rs i).right) (rule_at rs i).right
  right_reads i h = record { sorted = sorted_in order sig 4 falls.same_signature (rule_at rs i).right (rules i h).1; form = refl }

  -- rules that fall are proper
  pub falling_proper : Proper rs
  falling_proper i h = zero_is_proper order grade (prefix (rule_at rs i).left) (prefix (rule_at rs i).right) (rule_at rs i).left (rule_at rs i).right (left_reads i h) (right_reads i h) (falls.all_over i h)

module _ (order : Arities) (grade : List ℕ → List ℕ → ℕ) (over : Term → Term → Type 0) (laws : OrderLaws order grade over) (sig : Arities) (rs : List Rule) (falls : Falls order grade sig rs) (rules : RulesOf sig 4 rs) where
  terminate_in_order : Terminating (StepOf order 8 rs)
  terminate_in_order =
      let left = left_reads order grade sig rs falls rules in
      let right = right_reads order grade sig rs falls rules in
      oriented_rules_terminate order over laws.reduction rs
      (λ i h. ((left i h).sorted, (right i h).sorted))
      (falling_proper order grade sig rs falls rules)
      (λ i h. (fence_keeps_the_laws order grade over laws).graded_over (prefix (rule_at rs i).left) (prefix (rule_at rs i).right) (rule_at rs i).left (rule_at rs i).right (left i h) (right i h) (falls.all_over i h))

  down : (t : Term) → Acc (λ u t. StepOf order 8 rs t u) t → Acc (λ u t. StepOf sig 8 rs t u) t
  down t (Acc.intro s h) =
      Acc.intro s
      (λ u r. down u (h u (record { from = sorted_in order sig 8 falls.same_signature s r.from; to = sorted_in order sig 8 falls.same_signature u r.to; step = r.step })))

  pub falling_terminates : Terminating (StepOf sig 8 rs)
  falling_terminates t = down t (terminate_in_order t)

-- no rules, no steps
pub nothing_terminates : (sig : Arities) → Terminating (StepOf sig 8 [])
nothing_terminates sig t = Acc.intro t (λ u r. absurd (omega (arith, r.step.is_rule)))
