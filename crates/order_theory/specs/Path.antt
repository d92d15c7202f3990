-- The lexicographic path order, over a rank for each symbol.
use Rattle.std.specs.Prelude.{◌≡◌, ℕ, ◌<◌}
use Rattle.terms.specs.Term.{node, nil, cons, Term, Terms, how_many}

mutual
  -- s is greater than t
  pub data Greater (rank : ℕ → ℕ) : Term → Term → Type 0 where
    -- some argument of s is greater than or the same as t
    by_argument : {f : ℕ} {ss : Terms} {t : Term} → SomeAtLeast rank ss t → Greater rank (node f ss) t
    -- the head of s has the higher rank, and s is greater than all arguments of t
    by_rank : {f g : ℕ} {ss ts : Terms} → rank g < rank f → GreaterThanAll rank (node f ss) ts → Greater rank (node f ss) (node g ts)
    -- the heads are one symbol, the first differing argument is greater in s, and s is greater than all arguments of t
    by_arguments : {f : ℕ} {ss ts : Terms} → FirstGreater rank ss ts → GreaterThanAll rank (node f ss) ts → Greater rank (node f ss) (node f ts)

  -- one of the terms is t, or greater
  pub data SomeAtLeast (rank : ℕ → ℕ) : Terms → Term → Type 0 where
    is_first : {t : Term} {ts : Terms} → SomeAtLeast rank (cons t ts) t
    in_first : {s t : Term} {ss : Terms} → Greater rank s t → SomeAtLeast rank (cons s ss) t
    in_rest : {s t : Term} {ss : Terms} → SomeAtLeast rank ss t → SomeAtLeast rank (cons s ss) t

  -- s is greater than each of the terms
  pub data GreaterThanAll (rank : ℕ → ℕ) : Term → Terms → Type 0 where
    than_none : {s : Term} → GreaterThanAll rank s nil
    than_next : {s t : Term} {ts : Terms} → Greater rank s t → GreaterThanAll rank s ts → GreaterThanAll rank s (cons t ts)

  -- as many terms, and at the first place where they differ the left one is greater
  pub data FirstGreater (rank : ℕ → ℕ) : Terms → Terms → Type 0 where
    at_first : {s t : Term} {ss ts : Terms} → Greater rank s t → how_many ss ≡ how_many ts → FirstGreater rank (cons s ss) (cons t ts)
    at_rest : {s : Term} {ss ts : Terms} → FirstGreater rank ss ts → FirstGreater rank (cons s ss) (cons s ts)

-- two lists of terms begin with the same terms, and go on with ss and ts
pub data Common (us vs : Terms) : Terms → Terms → Type 0 where
  from_the_start : Common us vs us vs
  one_more : {u : Term} {ss ts : Terms} → Common us vs (cons u ss) (cons u ts) → Common us vs ss ts
