-- First-order terms, substitutions, and rules.
use Rattle.std.specs.Prelude.{◌≡◌, ℕ, ◌+◌, ◌⊎◌, List, slice_index_or}

-- A term, and a list of terms as the arguments of a symbol, are one family over what is meant, so that
-- a definition or a proof by recursion is written once for both.
pub data Kind : Type 0 where
  one many : Kind

-- variables and symbols are numbers
pub data Tree : Kind → Type 0 where
  var : ℕ → Tree one
  node : ℕ → Tree many → Tree one
  nil : Tree many
  cons : Tree one → Tree many → Tree many

-- a term: a variable, or a symbol with its arguments
abbrev pub Term : Type 0
Term = Tree one

-- arguments: a list of terms
abbrev pub Terms : Type 0
Terms = Tree many

-- how many terms: one, or the length of the list
abbrev pub how_many : {k : Kind} → Tree k → ℕ
how_many (var x) = 1
how_many (node f ts) = 1
how_many nil = 0
how_many (cons t ts) = 1 + how_many ts

-- the number of symbols and variables that stand in t
abbrev pub size : {k : Kind} → Tree k → ℕ
size (var x) = 1
size (node f ts) = 1 + size ts
size nil = 0
size (cons t ts) = size t + size ts

-- the variable x occurs in t
abbrev pub Occurs : {k : Kind} → ℕ → Tree k → Type 0
Occurs x (var y) = x ≡ y
Occurs x (node f ts) = Occurs x ts
Occurs x nil = ⊥
Occurs x (cons t ts) = Occurs x t ⊎ Occurs x ts

-- a term that is no variable
abbrev pub IsNode : Term → Type 0
IsNode (var x) = ⊥
IsNode (node f ts) = Unit {0}

-- a ground term has no variables
abbrev pub Ground : {k : Kind} → Tree k → Type 0
Ground t = (x : ℕ) → Occurs x t → ⊥

-- a substitution: a term for each variable
abbrev pub Subst : Type 0
Subst = ℕ → Term

-- the substitution σ carried out in t: an instance of t
abbrev pub sub : {k : Kind} → Subst → Tree k → Tree k
sub σ (var x) = σ x
sub σ (node f ts) = node f (sub σ ts)
sub σ nil = nil
sub σ (cons t ts) = cons (sub σ t) (sub σ ts)

-- first τ, then σ
abbrev pub after : Subst → Subst → Subst
after σ τ x = sub σ (τ x)

-- a rewrite rule: what is replaced, and by what
pub record Rule : Type 0 where
  pub left : Term
  pub right : Term

-- the rule with the number i, from 0; past the last rule it means nothing
abbrev pub rule_at : List Rule → ℕ → Rule
rule_at rs i = slice_index_or rs i (record { left = var 0; right = var 0 })
