-- The fence: an order over any order that also asks for what every rewrite rule must keep.
use Rattle.std.specs.Prelude.{◌≡◌, ℕ, Bool, true, false, cond, ◌&&◌, ◌||◌, List, [], ◌∷◌, length, ◌==◌, ◌≢◌, nat_le, nat_lt, slice_index}
use Rattle.terms.specs.Term.{Term, Occurs, IsNode}
use Rattle.terms.specs.Prefix.{Arities, Reads}

-- The left side is no variable, and each variable of the right side occurs in the left side.
abbrev pub ProperPair : Term → Term → Type 0
ProperPair s t = IsNode s × ((x : ℕ) → Occurs x t → Occurs x s)

-- the same as tests on prefix bytes: the byte x is one of the bytes,
abbrev pub has : ℕ → List ℕ → Bool
has x [] = false
has x (b ∷ bs) = b == x || has x bs

-- it is a code, or one of the bytes,
abbrev pub is_known : List ℕ → ℕ → Bool
is_known bs c = nat_lt c 128 || has c bs

-- each of the bytes cs is,
abbrev pub keeps_variables : List ℕ → List ℕ → Bool
keeps_variables bs [] = true
keeps_variables bs (c ∷ cs) = is_known bs c && keeps_variables bs cs

-- and bs begins with a code.
abbrev pub is_proper : List ℕ → List ℕ → Bool
is_proper bs cs = cond (length bs == 0) false (cond (nat_le 128 (slice_index bs 0)) false (keeps_variables bs cs))

-- The fence's grade over a grade: 8 as it is given beneath, then 9 for a pair that is not proper, else what is given beneath.
abbrev pub fence_grade : (List ℕ → List ℕ → ℕ) → List ℕ → List ℕ → ℕ
fence_grade grade bs cs = cond (grade bs cs == 8) 8 (cond (is_proper bs cs) (grade bs cs) 9)

-- The fence's grade of the bytes of two terms, in words.
pub record FenceOf (grade : List ℕ → List ℕ → ℕ) (bs cs : List ℕ) (s t : Term) : Type 0 where
  pub malformed : grade bs cs ≡ 8 → fence_grade grade bs cs ≡ 8
  pub improper : (grade bs cs ≢ 8) → (ProperPair s t → ⊥) → fence_grade grade bs cs ≡ 9
  pub beneath : (grade bs cs ≢ 8) → ProperPair s t → fence_grade grade bs cs ≡ grade bs cs

abbrev pub FenceInWords : Type 0
FenceInWords =
    (sig : Arities) (grade : List ℕ → List ℕ → ℕ) (bs cs : List ℕ) (s t : Term) → Reads sig 4 bs s → Reads sig 4 cs t → FenceOf grade bs cs s t
