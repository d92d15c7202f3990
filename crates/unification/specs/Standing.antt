-- The terms that stand at the offsets of a list of codes. A code below 128 is a symbol's, and every other is a variable.
use Rattle.std.specs.Prelude.{◌≡◌, ℕ, ◌+◌, ◌≤◌, cond, List, ◌++◌, length, drop, Some, None, Option, nat_lt, slice_index}
use Rattle.terms.specs.Term.{Kind, Tree, Term, Terms, size}
use Rattle.terms.specs.Prefix.{Arities, WellSorted, prefix}

-- how many arguments follow the code c: none behind a variable
abbrev pub count : Option ℕ → ℕ
count (Some n) = n
count None = 0

abbrev pub arguments_of : Arities → ℕ → ℕ
arguments_of sig c = cond (nat_lt c 128) (count (sig c)) 0

-- at the offset i of the codes g stands the term, or the list of terms, u; its variables are the four of each of two rules
pub record Stands {k : Kind} (sig : Arities) (g : List ℕ) (i : ℕ) (u : Tree k) : Type 0 where
  pub sorted : WellSorted sig 8 u
  pub reads : drop i g ≡ prefix u ++ drop (i + size u) g
  pub inside : i + size u ≤ length g

-- the codes g are terms, one after the other
abbrev pub IsForest : Arities → List ℕ → Type 0
IsForest sig g = (ts : Terms) × (WellSorted sig 8 ts) × (g ≡ prefix ts)

-- entry i of the table is the offset behind the term at i
abbrev pub Ends : Arities → List ℕ → List ℕ → Type 0
Ends sig g end = (i : ℕ) (t : Term) → Stands sig g i t → slice_index end i ≡ i + size t

-- the codes are at most 128, and terms of the signature; `end` has the offset behind each
pub record Laid (sig : Arities) (codes end : List ℕ) : Type 0 where
  pub terms : IsForest sig codes
  pub few : length codes ≤ 128
  pub room : length end ≡ length codes
  pub ends : Ends sig codes end
