-- What is written piece by piece is written as a whole.
use Rattle.std.proofs.Common.{◌≡◌, ℕ, ◌+◌, ◌-◌, ◌<◌, ◌≤◌, List, [], ◌∷◌, ◌++◌, length, get_or, take, drop, Some, None, sym, refl, ap, ◌∙◌, subst, ap₂, append_assoc, append-nil, arith, length-append, length-drop, take-append-drop}
use Rattle.std.proofs.lemmas.List.{take_more, take_all, drop-drop, take_rest, length-take-le}
use Rattle.terms.specs.Prefix.{expand}
use Rattle.terms.proofs.Reading.{expand_append}
use Rattle.stepping.specs.Writing.{Written, PutInFront, replaced}

-- nothing is written
pub written_nothing : (page : List ℕ) (p : ℕ) → Written page p [] page
written_nothing page p =
    let e : p + 0 ≡ p = omega arith in
    (ap (λ n. take n page) e ∙ sym (append-nil (take p page)), refl)

-- one write behind another
pub written_then : (page next after : List ℕ) (p q : ℕ) (v w : List ℕ) → q ≡ p + length v → Written page p v next → Written next q w after → Written page p (v ++ w) after
written_then page next after p q v w e a b =
    let n : p + length (v ++ w) ≡ q + length w = omega (arith, length-append v w) in
    let d : (o : List ℕ) → drop (q + length w) o ≡ drop (length w) (drop (p + length v) o) = λ o. sym (drop-drop (length w) q o) ∙ ap (λ k. drop (length w) (drop k o)) e in (
      ap (λ k. take k after) n ∙ b.0 ∙ ap (λ u. u ++ w) (ap (λ k. take k next) e ∙ a.0) ∙ append_assoc (take p page) v w,
      ap (λ k. drop k after) n ∙ b.1 ∙ d next ∙ ap (drop (length w)) a.1 ∙ sym (d page) ∙ ap (λ k. drop k page) (sym n),
    )

-- what is written from the front on
pub written_front : (page after v : List ℕ) → Written page 0 v after → after ≡ v ++ drop (length v) page
written_front page after v a =
    let n : 0 + length v ≡ length v = omega arith in
    sym (take-append-drop (length v) after)
    ∙ ap₂ ◌++◌ (ap (λ k. take k after) (sym n) ∙ a.0) (ap (λ k. drop k after) (sym n) ∙ a.1 ∙ ap (λ k. drop k page) n)

-- ── the bytes of a right side, piece by piece ──

module _ (f : ℕ → List ℕ) (right : List ℕ) (i : ℕ) where
  pub expand_more : i < length right → expand f (take (i + 1) right) ≡ expand f (take i right) ++ f (get_or right i 0)
  expand_more h =
      ap (expand f) (take_more right i 0 h) ∙ expand_append f (take i right) (get_or right i 0 ∷ [])
      ∙ ap (λ w. expand f (take i right) ++ w) (append-nil (f (get_or right i 0)))

  pub expand_all : length right ≤ i → expand f (take i right) ≡ expand f right
  expand_all h = ap (expand f) (take_all i right h)

  -- so far no more than the whole
  pub expand_part : length (expand f (take i right)) ≤ length (expand f right)
  expand_part =
      omega (arith, length-append (expand f (take i right)) (expand f (drop i right)), ap length (expand_append f (take i right) (drop i right)), ap (λ w. length (expand f w)) (take-append-drop i right))

-- the length of a piece more
pub length_more : (f : ℕ → List ℕ) (right : List ℕ) (i : ℕ) → i < length right → length (expand f (take (i + 1) right)) ≡ length (expand f (take i right)) + length (f (get_or right i 0))
length_more f right i h = ap length (expand_more f right i h) ∙ length-append (expand f (take i right)) (f (get_or right i 0))

-- ── the term around the part ──

module _ (term : List ℕ) (p n : ℕ) (inside : p + n ≤ length term) (new : List ℕ) where
  pub replaced_length : length (replaced term p n new) ≡ (length term - n) + length new
  replaced_length =
      omega (arith, length-append (take p term) (new ++ drop (p + n) term), length-append new (drop (p + n) term), length-take-le p term (omega arith), length-drop (p + n) term)

  -- what stands before the part, what replaces it, and what stands behind, written one after the other
  pub three_writes : (page one two after : List ℕ) (a b r : ℕ)
      → (a ≡ 0 + length (take p term)) → Written page 0 (take p term) one
      → (b ≡ a + length new) → Written one a new two
      → (r ≡ b + length (take (length term - (p + n)) (drop (p + n) term))) → Written two b (take (length term - (p + n)) (drop (p + n) term)) after
      → length term - n ≤ length page → length new ≤ length page - (length term - n)
      → PutInFront page (replaced term p n new) after (Some r)
  three_writes page one two after a b r a_is w₁ b_is w₂ r_is w₃ fits room =
      let e = take_rest term (p + n) in
      let behind = written_then one two after a b new (drop (p + n) term) b_is w₂ (subst (λ w. Written two b w after) e w₃) in
      let all = written_then page one after 0 a (take p term) (new ++ drop (p + n) term) a_is w₁ behind in
      let long : r ≡ length (replaced term p n new) =
      omega (arith, replaced_length, length-take-le p term (omega arith), ap length e, length-drop (p + n) term) in (
        long,
        omega (arith, replaced_length),
        written_front page after (replaced term p n new) all ∙ ap (λ k. replaced term p n new ++ drop k page) (sym long),
      )

  pub no_room : (page : List ℕ) → length page < (length term - n) + length new → PutInFront page (replaced term p n new) page None
  no_room page h = (omega (arith, replaced_length), refl)
