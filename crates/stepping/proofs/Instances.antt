-- The bytes of an instance of a right side, and of the term around it.
use Rattle.std.proofs.Common.{◌≡◌, ℕ, ◌+◌, ◌<◌, ◌≤◌, ltb, ◌⊎◌, List, [], ◌∷◌, ◌++◌, take, drop, Some, None, Option, sym, refl, ap, ◌∙◌, ap₂, inl, inr, arith}
use Rattle.std.proofs.lemmas.Bool.{cases_lt, cond-true, cond-false, lt-ltb, le-ltb}
use Rattle.terms.specs.Term.{Kind, one, Tree, var, node, nil, cons, Term, Subst, sub, Occurs, size}
use Rattle.terms.specs.Prefix.{Arities, prefix, expand, image, WellSorted, Reads}
use Rattle.terms.specs.Place.{Context, plug, place}
use Rattle.terms.proofs.Reading.{prefix_sub}
use Rattle.terms.proofs.Places.{bytes_at_a_place}
use Rattle.stepping.specs.Bindings.{Part, Bindings, bound_to, piece_of, Agrees}
use Rattle.stepping.specs.Writing.{instance_bytes, replaced}
use Rattle.stepping.proofs.Bound.{code_free, piece_free, piece_bound}

pub bound_or_free : (o : Option Part) → ((s : Part) × (o ≡ Some s)) ⊎ (o ≡ None)
bound_or_free (Some s) = inl (s, refl)
bound_or_free None = inr refl

-- the variables of a term
pub variable_range : {k : Kind} (sig : Arities) (n : ℕ) (t : Tree k) → WellSorted sig n t → (x : ℕ) → Occurs x t → (128 ≤ x) × (x < 128 + n)
variable_range sig n (var y) w x o = (omega (arith, w.0, o), omega (arith, w.1, o))
variable_range sig n (node f ts) w x o = variable_range sig n ts w.2 x o
variable_range sig n nil w x o = absurd o
variable_range sig n (cons t ts) w x (inl o) = variable_range sig n t w.0 x o
variable_range sig n (cons t ts) w x (inr o) = variable_range sig n ts w.1 x o

expand_same : (f g : ℕ → List ℕ) → ((b : ℕ) → f b ≡ g b) → (bs : List ℕ) → expand f bs ≡ expand g bs
expand_same f g h [] = refl
expand_same f g h (b ∷ bs) = ap₂ ◌++◌ (h b) (expand_same f g h bs)

module _ (sig : Arities) (vars : ℕ) (bs : Bindings) (σ : Subst) (agrees : Agrees sig vars bs σ) (stays : (x : ℕ) → bound_to bs x ≡ None → σ x ≡ var x) where
  -- the piece for a byte is its image under the substitution
  piece_is_image : (b : ℕ) → piece_of bs b ≡ image σ b
  piece_is_image b = elim (cases_lt b 128) [
    | inl h ↦ piece_free bs b (code_free bs b h) ∙ sym (cond-true (ltb b 128) (b ∷ []) (prefix (σ b)) (lt-ltb b 128 h))
    | inr h ↦
        let is : image σ b ≡ prefix (σ b) = cond-false (ltb b 128) (b ∷ []) (prefix (σ b)) (le-ltb b 128 h) in
        elim (bound_or_free (bound_to bs b)) [
          | inl s ↦ piece_bound bs b s.0 s.1 ∙ sym (agrees b s.0 s.1).form ∙ sym is
          | inr e ↦ piece_free bs b e ∙ ap prefix (sym (stays b e)) ∙ sym is
        ]
  ]

  pub instance_is : (right : List ℕ) (r : Term) → Reads sig 4 right r → instance_bytes bs right ≡ prefix (sub σ r)
  instance_is right r p =
      ap (expand (piece_of bs)) (sym p.form) ∙ expand_same (piece_of bs) (image σ) piece_is_image (prefix r) ∙ sym (prefix_sub sig 4 σ r p.sorted)

-- the bytes of a term with another one in the hole
pub replaced_is : (term : List ℕ) (p n : ℕ) (C : Context one) (s u : Term) → prefix (plug C s) ≡ term → place C ≡ p → size s ≡ n → replaced term p n (prefix u) ≡ prefix (plug C u)
replaced_is term p n C s u form at long =
    ap₂ (λ q w. take q w ++ (prefix u ++ drop (q + n) w)) (sym at) (sym form)
    ∙ ap (λ m. take (place C) (prefix (plug C s)) ++ (prefix u ++ drop (place C + m) (prefix (plug C s)))) (sym long)
    ∙ sym (bytes_at_a_place C s u).1
