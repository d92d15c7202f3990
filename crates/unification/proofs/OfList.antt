-- The critical pairs of two rules of a list, as rewriting defines them.
use Rattle.std.proofs.Common.{◌≡◌, ℕ, ◌+◌, ◌<◌, List, ◌∷◌, length, get_or, drop, ap, ◌∙◌, arith}
use Rattle.std.proofs.lemmas.List.{drop_more}
use Rattle.terms.specs.Term.{var, node, Term, Rule, rule_at, IsNode, size}
use Rattle.terms.specs.Prefix.{Arities, Begins, term_of}
use Rattle.terms.specs.Place.{part}
use Rattle.terms.proofs.Reading.{prefix_length}
use Rattle.terms.proofs.Parts.{part_begins}
use Rattle.rewriting.specs.Unify.{Overlap, CriticalPair}
use Rattle.unification.specs.Asked.{Asked}
use Rattle.unification.specs.Critical.{IsCriticalPair}
use Rattle.unification.proofs.LaidSides.{read_term}

module _ (rs : List Rule) (i p j : ℕ) (peak outer inner : Term) where
  pub of_list : CriticalPair rs i p j peak outer inner → IsCriticalPair (rule_at rs i) (rule_at rs j) p peak outer inner
  of_list c = record { μ = c.μ; mgu = c.mgu; peak_is = c.peak_is; outer_is = c.outer_is; inner_is = c.inner_is }

  pub in_list : Overlap rs i p j → IsCriticalPair (rule_at rs i) (rule_at rs j) p peak outer inner → CriticalPair rs i p j peak outer inner
  in_list o c = record { overlap = o; μ = c.μ; mgu = c.mgu; peak_is = c.peak_is; outer_is = c.outer_is; inner_is = c.inner_is }

-- what is asked is about a place inside of the left side, at which no variable stands
module _ (sig : Arities) (l r : List ℕ) (p : ℕ) (l' r' : List ℕ) (asked : Asked sig l r p l' r') where
  pub asked_inside : p < size (term_of sig l)
  asked_inside = omega (arith, asked.inside, prefix_length (term_of sig l), ap length (read_term sig 4 l asked.first_left.term).form)

  pub asked_node : IsNode (part (term_of sig l) p)
  asked_node = go (part (term_of sig l) p) (part_begins sig 4 l (term_of sig l) p (read_term sig 4 l asked.first_left.term) asked.inside)
    where
      go : (t : Term) → Begins sig 4 (drop p l) t → IsNode t
      go (node f ts) b = tt
      go (var x) b =
          let e : x ∷ b.rest ≡ get_or l p 0 ∷ drop (p + 1) l = b.form ∙ drop_more l p 0 asked.inside in
          let same : x ≡ get_or l p 0 = cc in
          absurd (omega (arith, b.sorted.0, asked.symbol))
