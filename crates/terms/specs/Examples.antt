-- Small examples: each definition holds of something and fails of something.
-- The symbols are e, f and h with the codes 1, 2 and 4 and with 0, 1 and 2 arguments; x is the variable 128.
use Rattle.std.specs.Prelude.{◌≡◌, cond, [], ◌∷◌, Some, None, ◌==◌}
use Rattle.terms.specs.Term.{one, var, node, nil, cons, Term, IsNode, Occurs, Ground, sub}
use Rattle.terms.specs.Prefix.{Arities, prefix, IsTerm, term_of}
use Rattle.terms.specs.Place.{Context, hole, under, head, tail, plug, position, place, part, replace}

abbrev pub sample : Arities
sample c = cond (c == 1) (Some 0) (cond (c == 2) (Some 1) (cond (c == 4) (Some 2) None))

-- e, f(e) and h(x, f(e))
abbrev pub e : Term
e = node 1 nil

abbrev pub fe : Term
fe = node 2 (cons e nil)

abbrev pub hxfe : Term
hxfe = node 4 (cons (var 128) (cons fe nil))

-- h(x, []), the context of f(e) in it
abbrev pub around : Context one
around = under 4 (tail (var 128) (head hole nil))

pub record DefinitionsHoldAndFail : Type 0 where
  -- h(x, f(e)) has the bytes 4 128 2 1, which are a term with a variable, and none without variables
  pub bytes : prefix hxfe ≡ 4 ∷ (128 ∷ (2 ∷ (1 ∷ [])))
  pub term : IsTerm sample 1 (4 ∷ (128 ∷ (2 ∷ (1 ∷ []))))
  pub no_ground_term : IsTerm sample 0 (4 ∷ (128 ∷ (2 ∷ (1 ∷ [])))) → ⊥
  pub reads_as : term_of sample (4 ∷ (128 ∷ (2 ∷ (1 ∷ [])))) ≡ hxfe
  -- too short, too long, and a code that is no symbol's
  pub too_short : IsTerm sample 8 (4 ∷ (128 ∷ [])) → ⊥
  pub too_long : IsTerm sample 8 (2 ∷ (1 ∷ (1 ∷ []))) → ⊥
  pub no_symbol : IsTerm sample 8 (3 ∷ []) → ⊥
  pub nothing : IsTerm sample 8 [] → ⊥
  -- its part at the place 2 and the position 2 is f(e), and e in its stead gives h(x, e)
  pub split : hxfe ≡ plug around fe
  pub place_is : place around ≡ 2
  pub position_is : position around ≡ 2 ∷ []
  pub part_is : part hxfe 2 ≡ fe
  pub replaced : replace hxfe 2 e ≡ node 4 (cons (var 128) (cons e nil))
  pub part_inside : part hxfe 3 ≡ e
  -- x occurs in it and e is ground; e for x gives h(e, f(e))
  pub occurs : Occurs 128 hxfe
  pub is_ground : Ground e
  pub not_ground : Ground hxfe → ⊥
  pub instance : sub (λ x. e) hxfe ≡ node 4 (cons e (cons fe nil))
  pub no_variable : IsNode e
  pub variable : IsNode (var 128) → ⊥
