-- The critical pair of two rules at a place, and what is answered to the question for it.
use Rattle.std.specs.Prelude.{◌≡◌, ℕ, ◌<◌, ◌≤◌, ◌⊎◌, List, Result, Ok, Err}
use Rattle.terms.specs.Term.{Term, Rule, Subst, sub, Occurs, size}
use Rattle.terms.specs.Prefix.{Arities, WellSorted, prefix}
use Rattle.terms.specs.Place.{part, replace}
use Rattle.rewriting.specs.Unify.{IsMgu, NotUnifiable, distinct, renumbering}
use Rattle.unification.specs.declared.critical.CriticalPair.{CriticalPair}
use Rattle.unification.specs.declared.critical.NoPair.{NoPair}
use Rattle.unification.specs.declared.critical.NoPair.TheVariants.{Malformed, Apart, TooLong}
use Rattle.unification.specs.Asked.{Asked, rule_of}
use Rattle.unification.specs.Written.{bytes_of}

-- The peak, the outer and the inner side of the overlap of two rules at the place p of the first: its left side, its right side, and its left side
-- with the occurrence at p replaced by the second right side, all under a most general unifier and with the variables renumbered by first
-- appearance in the peak.
pub record IsCriticalPair (first second : Rule) (p : ℕ) (peak outer inner : Term) : Type 0 where
  pub μ : Subst
  pub mgu : IsMgu μ (part first.left p) (distinct second.left)
  pub peak_is : peak ≡ sub (renumbering (sub μ first.left)) (sub μ first.left)
  pub outer_is : outer ≡ sub (renumbering (sub μ first.left)) (sub μ first.right)
  pub inner_is : inner ≡ sub (renumbering (sub μ first.left)) (sub μ (replace first.left p (distinct second.right)))

-- there is a critical pair, and one of its three terms has more than 255 symbols
pub record IsTooLong (first second : Rule) (p : ℕ) : Type 0 where
  pub μ : Subst
  pub mgu : IsMgu μ (part first.left p) (distinct second.left)
  pub long : (peak outer inner : Term) → IsCriticalPair first second p peak outer inner → (255 < size peak) ⊎ ((255 < size outer) ⊎ (255 < size inner))

-- no variable of the right side is new
abbrev pub NoNewVariable : Rule → Type 0
NoNewVariable rule = (x : ℕ) → Occurs x rule.right → Occurs x rule.left

-- The critical pair in prefix form, no term of more than 255 symbols. The peak is a term of the signature with eight variables, and so is each side if the rule that gives it has no
-- new variable.
pub record IsWritten (sig : Arities) (first second : Rule) (p : ℕ) (pair : CriticalPair) : Type 0 where
  pub peak : Term
  pub outer : Term
  pub inner : Term
  pub is_pair : IsCriticalPair first second p peak outer inner
  pub peak_bytes : bytes_of pair.peak ≡ prefix peak
  pub outer_bytes : bytes_of pair.outer ≡ prefix outer
  pub inner_bytes : bytes_of pair.inner ≡ prefix inner
  pub short : (size peak ≤ 255) × (size outer ≤ 255) × (size inner ≤ 255)
  pub peak_sorted : WellSorted sig 8 peak
  pub outer_sorted : NoNewVariable first → WellSorted sig 8 outer
  pub inner_sorted : NoNewVariable second → WellSorted sig 8 inner

-- what is answered for two rules and a place of the first at which no variable stands
abbrev pub OfRules : Arities → Rule → Rule → ℕ → Result CriticalPair NoPair → Type 0
OfRules sig first second p (Err Malformed) = ⊥
OfRules sig first second p (Err Apart) = NotUnifiable (part first.left p) (distinct second.left)
OfRules sig first second p (Err TooLong) = IsTooLong first second p
OfRules sig first second p (Ok pair) = IsWritten sig first second p pair

-- what is answered for any bytes l, r, l' and r' and any place p
abbrev pub Answer : Arities → List ℕ → List ℕ → ℕ → List ℕ → List ℕ → Result CriticalPair NoPair → Type 0
Answer sig l r p l' r' (Err Malformed) = Asked sig l r p l' r' → ⊥
Answer sig l r p l' r' (Err Apart) = Asked sig l r p l' r' × OfRules sig (rule_of sig l r) (rule_of sig l' r') p (Err Apart)
Answer sig l r p l' r' (Err TooLong) = Asked sig l r p l' r' × OfRules sig (rule_of sig l r) (rule_of sig l' r') p (Err TooLong)
Answer sig l r p l' r' (Ok pair) = Asked sig l r p l' r' × OfRules sig (rule_of sig l r) (rule_of sig l' r') p (Ok pair)
