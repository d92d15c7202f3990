-- When the rules of a book fall under an order, and what is said if they do not.
use Rattle.std.specs.Prelude.{◌≡◌, ℕ, ◌<◌, List, length}
use Rattle.terms.specs.Term.{Rule, rule_at}
use Rattle.terms.specs.Prefix.{Arities, prefix}
use Rattle.order_theory.specs.Fence.{fence_grade}
use Rattle.judge.specs.declared.orient_fault.OrientFault.{OrientFault}
use Rattle.judge.specs.declared.orient_fault.OrientFault.TheVariants.{OtherSignature, NotOver}

-- two signatures give each byte the same arity
abbrev pub SameSignature : Arities → Arities → Type 0
SameSignature sig other = (c : ℕ) → c < 256 → sig c ≡ other c

-- the grade of the rule i through the fence over a grade
abbrev pub rule_grade : (List ℕ → List ℕ → ℕ) → List Rule → ℕ → ℕ
rule_grade grade rs i = fence_grade grade (prefix (rule_at rs i).left) (prefix (rule_at rs i).right)

-- The rules of a signature fall under an order with a signature and a grade.
pub record Falls (order : Arities) (grade : List ℕ → List ℕ → ℕ) (sig : Arities) (rs : List Rule) : Type 0 where
  pub same_signature : SameSignature order sig
  pub all_over : (i : ℕ) → i < length rs → rule_grade grade rs i ≡ 0

-- The rule i is the first whose grade through the fence is not 0.
pub record FirstNotOver (order : Arities) (grade : List ℕ → List ℕ → ℕ) (sig : Arities) (rs : List Rule) (i g : ℕ) : Type 0 where
  pub same_signature : SameSignature order sig
  pub listed : i < length rs
  pub over_before : (j : ℕ) → j < i → rule_grade grade rs j ≡ 0
  pub grade_is : g ≡ rule_grade grade rs i
  pub not_over : g ≡ 0 → ⊥

-- the number of each fault
abbrev pub number_of : OrientFault → ℕ
number_of OtherSignature = 14
number_of (NotOver rule kind grade) = 15

-- What each fault says: 14, the signatures are not equal; 15, the first rule that is not over, the order's kind, and that rule's grade.
abbrev pub OrientRefused : Arities → (List ℕ → List ℕ → ℕ) → ℕ → Arities → List Rule → OrientFault → Type 0
OrientRefused order grade kind sig rs OtherSignature = SameSignature order sig → ⊥
OrientRefused order grade kind sig rs (NotOver rule k g) = FirstNotOver order grade sig rs rule g × (k ≡ kind)
