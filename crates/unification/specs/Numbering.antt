-- Variables renumbered by first appearance, byte by byte.
use Rattle.std.specs.Prelude.{ℕ, ◌+◌, cond, List, [], ◌∷◌, ◌++◌, nat_lt}
use Rattle.terms.specs.Term.{var, Subst}
use Rattle.rewriting.specs.Unify.{is_in, index}

-- the variables among the codes in the sequence of their first appearance, behind those that were seen before
abbrev pub seen_among : List ℕ → List ℕ → List ℕ
seen_among before [] = before
seen_among before (b ∷ bs) = seen_among (cond (nat_lt b 128) before (cond (is_in b before) before (before ++ b ∷ []))) bs

-- each variable becomes 128 and how many stand before it in the list
abbrev pub numbered : List ℕ → Subst
numbered variables x = var (128 + index x variables)
