-- Fields and their bytes: what a reader finds, and that fields are read back from their bytes.
use Rattle.std.proofs.Common.{◌≡◌, ℕ, zero, suc, ◌+◌, ◌-◌, ◌*◌, ◌/◌, ◌%◌, ◌<◌, ◌≤◌, List, [], ◌∷◌, ◌++◌, length, get_or, take, drop, sym, refl, ap, ◌∙◌, ap₂, mod-lt, arith, length-append, length-drop}
use native.Mathlib.Nat.{div-add-mod}
use Rattle.std.proofs.lemmas.List.{take_at, drop_at, drop-drop, get_or-drop, length-take-le, take-append-drop}
use Rattle.book.specs.Format.{BookField, book_field, field_bytes, book_bytes, value_length, field_at, first_fields, fields}
use Rattle.book.specs.Questions.{Whole}

-- a header in the middle of the bytes
pub length_there : (bs : List ℕ) (at n : ℕ) → n ≡ 256 * get_or bs (at + 1) 0 + get_or bs (at + 2) 0 → value_length (drop at bs) ≡ n
length_there bs at n e = ap₂ (λ a b. 256 * a + b) (get_or-drop at bs 1 0) (get_or-drop at bs 2 0) ∙ sym e

pub field_there : (bs : List ℕ) (at n : ℕ) → value_length (drop at bs) ≡ n → (tag : ℕ) (value : List ℕ) → tag ≡ get_or bs at 0 → value ≡ take ((at + 3 + n) - (at + 3)) (drop (at + 3) bs) → book_field tag value ≡ field_at (drop at bs)
field_there bs at n e tag value t v =
    let first : at + 0 ≡ at = omega arith in
    let long : (at + 3 + n) - (at + 3) ≡ n = omega arith in
    ap₂ book_field
    (t ∙ ap (λ i. get_or bs i 0) (sym first) ∙ sym (get_or-drop at bs 0 0))
    (v ∙ ap₂ take (long ∙ sym e) (sym (drop-drop 3 at bs)))

-- ── fields are read back from their bytes ──

pub length_back : (f : BookField) (more : List ℕ) → value_length (field_bytes f ++ more) ≡ length f.value
length_back f more = div-add-mod (length f.value) 256

pub field_back : (f : BookField) (more : List ℕ) → field_at (field_bytes f ++ more) ≡ f
field_back f more = ap (book_field f.tag) (take_at f.value more (value_length (field_bytes f ++ more)) (sym (length_back f more)))

pub rest_back : (f : BookField) (more : List ℕ) → drop (3 + value_length (field_bytes f ++ more)) (field_bytes f ++ more) ≡ more
rest_back f more = drop_at (field_bytes f) more (3 + value_length (field_bytes f ++ more)) (omega (arith, length_back f more))

fields_back_in : (k : ℕ) (fs : List BookField) → length fs ≤ k → first_fields k (book_bytes fs) ≡ fs
fields_back_in zero [] h = refl
fields_back_in (suc k) [] h = refl
fields_back_in zero (f ∷ fs) h = absurd (omega arith)
fields_back_in (suc k) (f ∷ fs) h =
    ap₂ ◌∷◌ (field_back f (book_bytes fs)) (ap (first_fields k) (rest_back f (book_bytes fs)) ∙ fields_back_in k fs (omega arith))

-- each field has three bytes at least
pub few_fields : (fs : List BookField) → 3 * length fs ≤ length (book_bytes fs)
few_fields [] = omega arith
few_fields (f ∷ fs) = omega (arith, few_fields fs, length-append (field_bytes f) (book_bytes fs))

pub fields_back : (fs : List BookField) → fields (book_bytes fs) ≡ fs
fields_back fs = fields_back_in (length (book_bytes fs)) fs (omega (arith, few_fields fs))

-- ── the bytes of the field that is read ──

two_digits : (hi lo n : ℕ) → lo < 256 → 256 * hi + lo ≡ n → (n / 256 ≡ hi) × (n % 256 ≡ lo)
two_digits hi lo n h e =
    let d = div-add-mod n 256 in
    let m = mod-lt n {m = 256} (omega arith) in
    (omega arith, omega arith)

starts : (bs : List ℕ) → 3 ≤ length bs → bs ≡ get_or bs 0 0 ∷ (get_or bs 1 0 ∷ (get_or bs 2 0 ∷ drop 3 bs))
starts [] h = absurd (omega arith)
starts (a ∷ []) h = absurd (omega arith)
starts (a ∷ (b ∷ [])) h = absurd (omega arith)
starts (a ∷ (b ∷ (c ∷ bs))) h = refl

pub bytes_back : (bs : List ℕ) → get_or bs 2 0 < 256 → Whole bs → field_bytes (field_at bs) ++ drop (3 + value_length bs) bs ≡ bs
bytes_back bs small whole =
    let n = value_length bs in
    let long : length (take n (drop 3 bs)) ≡ n = length-take-le n (drop 3 bs) (omega (arith, length-drop 3 bs)) in
    let digits = two_digits (get_or bs 1 0) (get_or bs 2 0) n small refl in
    let value : take n (drop 3 bs) ++ drop (3 + n) bs ≡ drop 3 bs = ap (λ w. take n (drop 3 bs) ++ w) (sym (drop-drop n 3 bs)) ∙ take-append-drop n (drop 3 bs) in
    let hi : length (take n (drop 3 bs)) / 256 ≡ get_or bs 1 0 = ap (λ k. k / 256) long ∙ digits.0 in
    let lo : length (take n (drop 3 bs)) % 256 ≡ get_or bs 2 0 = ap (λ k. k % 256) long ∙ digits.1 in
    (λ i. get_or bs 0 0 ∷ (hi i ∷ (lo i ∷ value i))) ∙ sym (starts bs (omega arith))
