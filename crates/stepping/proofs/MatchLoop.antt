-- The invariant of the loop of `matches`, and its steps, over plain lists and numbers.
use Rattle.std.proofs.Common.{◌≡◌, ℕ, ◌+◌, ◌-◌, ◌<◌, ◌≤◌, List, [], ◌∷◌, length, get_or, take, drop, Some, None, refl, ap, ◌∙◌, inl, inr, arith, length-drop, length-set}
use Rattle.std.proofs.lemmas.List.{take_rest}
use Rattle.terms.specs.Term.{Term, Subst, sub}
use Rattle.terms.specs.Prefix.{Arities, Reads, IsTerm, Begins, FirstTerm}
use Rattle.terms.proofs.Parts.{first_within}
use Rattle.stepping.specs.declared.matching.Substitution.{Substitution}
use Rattle.stepping.specs.Bindings.{Part, Bindings, Binds, Matched}
use Rattle.stepping.proofs.Bytes.{first_from}
use Rattle.stepping.proofs.Bound.{free_start, all_free}
use Rattle.stepping.proofs.MatchSteps.{State, start, in_bytes, symbol_step, symbol_clash, variable_step, variable_clash, variable_small, some_term, finish}

-- what is left of the left side from i on, under the bindings so far, is to be matched with what is left of the bytes from j on
pub record Inv (sig : Arities) (vars : ℕ) (left bytes : List ℕ) (i j : ℕ) (bs : Bindings) : Type 0 where
  pub four : length bs ≡ 4
  pub inside : j ≤ length bytes
  pub state : (l t : Term) → Reads sig 4 left l → (q : Begins sig vars bytes t) → State sig vars left bytes l t q.rest i j bs

-- no substitution makes the left side the term
abbrev pub NoMatch : Arities → ℕ → List ℕ → List ℕ → Type 0
NoMatch sig vars left bytes = (l t : Term) → Reads sig 4 left l → Begins sig vars bytes t → (σ : Subst) → sub σ l ≡ t → ⊥

module _ {sig : Arities} {vars : ℕ} {left bytes : List ℕ} where
  -- nothing is bound at the start
  pub inv_start : Inv sig vars left bytes 0 0 (None ∷ (None ∷ (None ∷ (None ∷ []))))
  inv_start = record {
    four = refl;
    inside = omega arith;
    state = λ l t p q. start sig vars left bytes l t q.rest (None ∷ (None ∷ (None ∷ (None ∷ [])))) (all_free (None ∷ (None ∷ (None ∷ (None ∷ [])))) free_start) p q.sorted q.form;
  }

  module _ (some_left : IsTerm sig 4 left) (some_term_there : (t : Term) × Begins sig vars bytes t) {i j : ℕ} {bs : Bindings} (inv : Inv sig vars left bytes i j bs) (h : i < length left) where
    -- the state, at some terms that are read
    here : State sig vars left bytes some_left.0 some_term_there.0 some_term_there.1.rest i j bs
    here = inv.state some_left.0 some_term_there.0 some_left.1 some_term_there.1

    pub inv_index : j < length bytes
    inv_index = in_bytes sig vars left bytes some_left.0 some_term_there.0 some_term_there.1.rest i j bs here.0 here.1 here.2 h

    pub inv_symbol : get_or left i 0 < 128 → get_or bytes j 0 ≡ get_or left i 0 → Inv sig vars left bytes (i + 1) (j + 1) bs
    inv_symbol k e = record {
      four = inv.four;
      inside = let a = inv_index in omega arith;
      state = λ l t p q. let s = inv.state l t p q in symbol_step sig vars left bytes l t q.rest i j bs s.0 s.1 s.2 h k e;
    }

    pub inv_symbol_clash : get_or left i 0 < 128 → (get_or bytes j 0 ≡ get_or left i 0 → ⊥) → NoMatch sig vars left bytes
    inv_symbol_clash k e l t p q = let s = inv.state l t p q in symbol_clash sig vars left bytes l t q.rest i j bs s.0 s.1 s.2 h k e

    -- `&bytes[j..]`
    abbrev rest : List ℕ
    rest = take (length bytes - j) (drop j bytes)

    pub inv_some : FirstTerm sig vars rest None → ⊥
    inv_some f = some_term sig vars left bytes some_left.0 some_term_there.0 some_term_there.1.rest i j bs here.0 here.1 here.2 h (first_from sig vars bytes j None f)

    -- the first term that is left is within the bytes
    pub inv_part : (n : ℕ) → FirstTerm sig vars rest (Some n) → j + n ≤ length bytes
    inv_part n first = omega (arith, first_within sig vars (drop j bytes) n (first_from sig vars bytes j (Some n) first), length-drop j bytes, inv.inside)

    module _ (k : 128 ≤ get_or left i 0) where
      pub inv_small : get_or left i 0 - 128 < 4
      inv_small = variable_small sig vars left bytes some_left.0 some_term_there.0 some_term_there.1.rest i j bs here.0 here.1 here.2 h k

      module _ (n : ℕ) (part : Part) (is : part.now ≡ take n rest) (first : FirstTerm sig vars rest (Some n)) where
        is_part : part.now ≡ take n (drop j bytes)
        is_part = is ∙ ap (take n) (take_rest bytes j)

        first_there : FirstTerm sig vars (drop j bytes) (Some n)
        first_there = first_from sig vars bytes j (Some n) first

        after_four : (after : Substitution) → Binds bs (get_or left i 0 - 128) part (Some after) → length after.parts ≡ 4
        after_four after (inl c) = ap length c.1 ∙ length-set bs (get_or left i 0 - 128) (Some part) ∙ inv.four
        after_four after (inr c) = ap length c.3 ∙ inv.four

        pub inv_variable : (after : Substitution) → Binds bs (get_or left i 0 - 128) part (Some after) → Inv sig vars left bytes (i + 1) (j + n) after.parts
        inv_variable after b = record {
          four = after_four after b;
          inside = inv_part n first;
          state = λ l t p q. let s = inv.state l t p q in variable_step sig vars left bytes l t q.rest i j n bs part is_part h k first_there after s.0 s.1 s.2 inv.four b;
        }

        pub inv_variable_clash : Binds bs (get_or left i 0 - 128) part None → NoMatch sig vars left bytes
        inv_variable_clash b l t p q = let s = inv.state l t p q in variable_clash sig vars left bytes l t q.rest i j n bs part is_part h k first_there s.0 s.1 s.2 b

  pub inv_end : {i j : ℕ} {bs : Bindings} → Inv sig vars left bytes i j bs → length left ≤ i → (l t : Term) → Reads sig 4 left l → Begins sig vars bytes t → Matched sig vars l t bs j
  inv_end {i} {j} {bs} inv h l t p q =
      let s = inv.state l t p q in
      finish sig vars left bytes l t q.rest i j bs s.0 s.1 s.2 h inv.inside q.form
