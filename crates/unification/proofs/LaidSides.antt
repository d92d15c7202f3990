-- The sides of two rules, laid one after the other, are terms with eight variables.
use Rattle.std.proofs.Common.{◌≡◌, ℕ, ◌+◌, ◌-◌, ◌<◌, ◌≤◌, List, [], ◌∷◌, ◌++◌, length, get_or, sym, refl, ap, ◌∙◌, subst, ap₂, append_assoc, append-nil, arith, length-append}
use native.Mathlib.Decide.{dec_lt}
use Rattle.std.proofs.lemmas.List.{take_rest, get_or_append_left, get_or-append_right}
use Rattle.terms.specs.Term.{Kind, Tree, var, node, nil, cons, Term, sub}
use Rattle.terms.specs.Prefix.{Arities, WellSorted, prefix, expand, image, Reads, IsTerm, term_of}
use Rattle.terms.proofs.Reading.{prefix_length, prefix_sub, bytes_read_as_their_term}
use Rattle.rewriting.specs.Unify.{distinct}
use Rattle.rewriting.proofs.Substitution.{sub_cong, sub_var}
use Rattle.rewriting.proofs.Sorted.{sorted_sub}
use Rattle.unification.specs.Writing.{written}
use Rattle.unification.specs.Laying.{moved, Sides}
use Rattle.unification.specs.Asked.{rule_of}
use Rattle.unification.proofs.Triangular.{sorted_between}

-- the codes of a term with n variables are below 128 + n
low_append : (m : ℕ) (xs ys : List ℕ) → ((k : ℕ) → k < length xs → get_or xs k 0 < m) → ((k : ℕ) → k < length ys → get_or ys k 0 < m) → (k : ℕ) → k < length (xs ++ ys) → get_or (xs ++ ys) k 0 < m
low_append m xs ys a b k h = go (dec_lt k (length xs))
  where
    go : Dec (k < length xs) → get_or (xs ++ ys) k 0 < m
    go (yes l) = subst (λ z. z < m) (sym (get_or_append_left xs ys 0 k l)) (a k l)
    go (no n) = let e = length-append xs ys in subst (λ z. z < m) (sym (get_or-append_right xs ys (length xs) k 0 refl (omega arith))) (b (k - length xs) (omega arith))

low_one : (m x : ℕ) → x < m → (k : ℕ) → k < length (x ∷ []) → get_or (x ∷ []) k 0 < m
low_one m x h k l = let e : k ≡ 0 = omega arith in subst (λ z. get_or (x ∷ []) z 0 < m) (sym e) h

pub prefix_low : {k : Kind} (sig : Arities) (n : ℕ) (t : Tree k) → WellSorted sig n t → (i : ℕ) → i < length (prefix t) → get_or (prefix t) i 0 < 128 + n
prefix_low sig n (var x) w = low_one (128 + n) x w.1
prefix_low sig n (node f ts) w = low_append (128 + n) (f ∷ []) (prefix ts) (low_one (128 + n) f (omega (arith, w.0))) (prefix_low sig n ts w.2)
prefix_low sig n nil w = λ i h. absurd (omega arith)
prefix_low sig n (cons t ts) w = low_append (128 + n) (prefix t) (prefix ts) (prefix_low sig n t w.0) (prefix_low sig n ts w.1)

pub term_low : (sig : Arities) (n : ℕ) (bs : List ℕ) → IsTerm sig n bs → (i : ℕ) → i < length bs → get_or bs i 0 < 128 + n
term_low sig n bs p = subst (λ z. (i : ℕ) → i < length z → get_or z i 0 < 128 + n) p.1.form (prefix_low sig n p.0 p.1.sorted)

-- ── one side ──

pub read_term : (sig : Arities) (n : ℕ) (bs : List ℕ) → IsTerm sig n bs → Reads sig n bs (term_of sig bs)
read_term sig n bs p = subst (Reads sig n bs) (sym (bytes_read_as_their_term sig n bs p.0 p.1)) p.1

moved_none : (t : Term) → sub (moved 0) t ≡ t
moved_none t = sub_cong t (moved 0) var (λ x o. ap var (omega arith)) ∙ sub_var t

moved_bytes : (sig : Arities) (n : ℕ) (bs : List ℕ) (t : Term) → Reads sig 4 bs t → written (moved n) bs 0 (length bs) ≡ prefix (sub (moved n) t)
moved_bytes sig n bs t r = ap (expand (image (moved n))) (take_rest bs 0 ∙ sym r.form) ∙ sym (prefix_sub sig 4 (moved n) t r.sorted)

moved_sorted : (sig : Arities) (n : ℕ) (t : Term) → n ≤ 4 → WellSorted sig 4 t → WellSorted sig 8 (sub (moved n) t)
moved_sorted sig n t h w = sorted_sub sig 4 8 (moved n) t w (λ x o. let b = sorted_between sig 4 t x w o in (omega (arith, b.0), omega (arith, b.1)))

pub more_sorted : (sig : Arities) (t : Term) → WellSorted sig 4 t → WellSorted sig 8 t
more_sorted sig t w = subst (WellSorted sig 8) (moved_none t) (moved_sorted sig 0 t (omega arith) w)

-- ── the four sides ──

module _ (sig : Arities) (l l' r r' c₀ c₁ c₂ c₃ c₄ : List ℕ) (a : Reads sig 4 l (term_of sig l)) (b : Reads sig 4 l' (term_of sig l')) (c : Reads sig 4 r (term_of sig r)) (d : Reads sig 4 r' (term_of sig r')) where
  pub laid_sides : c₀ ≡ [] → c₁ ≡ c₀ ++ written (moved 0) l 0 (length l) → c₂ ≡ c₁ ++ written (moved 4) l' 0 (length l') → c₃ ≡ c₂ ++ written (moved 0) r 0 (length r) → c₄ ≡ c₃ ++ written (moved 4) r' 0 (length r') → length c₂ ≡ length c₁ + length l' → Sides sig c₄ (length l) (length l + length l') ((length l + length l') + length r) (rule_of sig l r) (rule_of sig l' r')
  laid_sides none w₁ w₂ w₃ w₄ long =
      record {
        sorted = (more_sorted sig t a.sorted, (moved_sorted sig 4 t' (omega arith) b.sorted, (more_sorted sig u c.sorted, (moved_sorted sig 4 u' (omega arith) d.sorted, tt))));
        form = whole ∙ simp append_assoc (ap₂ (λ x y. x ++ y) left_is (ap₂ (λ x y. x ++ y) second_is (ap₂ (λ x y. x ++ y) right_is (last_is ∙ sym (append-nil (prefix (distinct u')))))));
        left_long = sym (ap length a.form) ∙ prefix_length t;
        second_long = omega (arith, long, ap length w₂, length-append c₁ (written (moved 4) l' 0 (length l')), ap length second_is, prefix_length (distinct t'));
        right_long = omega (arith, ap length c.form, prefix_length u);
      }
    where
      t : Term
      t = term_of sig l

      t' : Term
      t' = term_of sig l'

      u : Term
      u = term_of sig r

      u' : Term
      u' = term_of sig r'

      left_is : written (moved 0) l 0 (length l) ≡ prefix (term_of sig l)
      left_is = moved_bytes sig 0 l (term_of sig l) a ∙ ap prefix (moved_none (term_of sig l))

      second_is : written (moved 4) l' 0 (length l') ≡ prefix (distinct (term_of sig l'))
      second_is = moved_bytes sig 4 l' (term_of sig l') b

      right_is : written (moved 0) r 0 (length r) ≡ prefix (term_of sig r)
      right_is = moved_bytes sig 0 r (term_of sig r) c ∙ ap prefix (moved_none (term_of sig r))

      last_is : written (moved 4) r' 0 (length r') ≡ prefix (distinct (term_of sig r'))
      last_is = moved_bytes sig 4 r' (term_of sig r') d

      whole : c₄ ≡ ((written (moved 0) l 0 (length l) ++ written (moved 4) l' 0 (length l')) ++ written (moved 0) r 0 (length r)) ++ written (moved 4) r' 0 (length r')
      whole =
          w₄
          ∙ ap (λ z. z ++ written (moved 4) r' 0 (length r')) (w₃
          ∙ ap (λ z. z ++ written (moved 0) r 0 (length r)) (w₂
          ∙ ap (λ z. z ++ written (moved 4) l' 0 (length l')) (w₁
          ∙ ap (λ z. z ++ written (moved 0) l 0 (length l)) none)))
