-- A number that is written with zeros up to a width is its last digits, if it is short enough.
use Rattle.std.proofs.Common.{◌≡◌, ℕ, zero, suc, ◌+◌, ◌-◌, ◌*◌, ◌/◌, ◌%◌, ◌^◌, ◌<◌, ◌≤◌, List, [], ◌∷◌, ◌++◌, length, replicate, sym, refl, ap, ◌∙◌, ap₂, append_assoc, append-nil, arith, length-append, lit<}
use Rattle.std.proofs.Math.Nat.{pow-suc}
use Rattle.std.specs.Fmt.{decimal, styled_decimal, padded_integral, char_count, format_spec}
use Rattle.std.proofs.lemmas.Fmt.{decimal_by_steps}
use Rattle.std.proofs.lemmas.Grind.{replicate_next}
use Rattle.bench.specs.Lines.{digits}

zeros : (k : ℕ) → digits k 0 ≡ replicate k 48
zeros zero = refl
zeros (suc k) = ap (λ w. w ++ 48 ∷ []) (zeros k) ∙ sym (replicate_next k 48) ∙ ap (λ j. replicate j 48) {x = k + 1} {y = suc k} (omega arith)

abbrev Filled : ℕ → List ℕ → Type 0
Filled n ds = (k : ℕ) → 0 < k → n < 10 ^ k → replicate (k - length ds) 48 ++ ds ≡ digits k n

filled : (n : ℕ) → n < 2 ^ 64 → Filled n (decimal n)
filled = decimal_by_steps Filled one more
  where
    one : (m : ℕ) → m < 10 → Filled m ((48 + m) ∷ [])
    one m l zero some small = absurd (omega arith)
    one m l (suc k) some small =
        let j : suc k - 1 ≡ k = omega arith in
        let q : m / 10 ≡ 0 = omega arith in
        let r : m % 10 ≡ m = omega arith in
        rw (j, q, r, zeros k) refl

    more : (m : ℕ) (ds : List ℕ) → 10 ≤ m → Filled (m / 10) ds → Filled m (ds ++ (48 + m % 10) ∷ [])
    more m ds l h zero some small = absurd (omega arith)
    more m ds l h (suc k) some small =
        let power : 10 ^ suc k ≡ 10 ^ k * 10 = pow-suc 10 k in
        let j : suc k - length (ds ++ (48 + m % 10) ∷ []) ≡ k - length ds = omega (arith, length-append ds ((48 + m % 10) ∷ [])) in
        ap (λ i. replicate i 48 ++ (ds ++ (48 + m % 10) ∷ [])) j
        ∙ sym (append_assoc (replicate (k - length ds) 48) ds ((48 + m % 10) ∷ []))
        ∙ ap (λ w. w ++ (48 + m % 10) ∷ []) (h k (positive k small) (omega (arith, power)))
      where
        positive : (k : ℕ) → m < 10 ^ suc k → 0 < k
        positive zero s = absurd (omega (arith, pow-suc 10 0))
        positive (suc k) s = omega arith

-- the last digits are those of the rest
one_rest : (n : ℕ) → digits 1 (n % 10) ≡ digits 1 n
one_rest n = ap (λ d. (48 + d) ∷ []) (omega arith)

two_rest : (n : ℕ) → digits 2 (n % 100) ≡ digits 2 n
two_rest n = let q : n % 100 / 10 ≡ n / 10 % 10 = omega arith in ap₂ (λ w d. w ++ (48 + d) ∷ []) (ap (digits 1) q ∙ one_rest (n / 10)) (omega arith)

three_rest : (n : ℕ) → digits 3 (n % 1000) ≡ digits 3 n
three_rest n = let q : n % 1000 / 10 ≡ n / 10 % 100 = omega arith in ap₂ (λ w d. w ++ (48 + d) ∷ []) (ap (digits 2) q ∙ two_rest (n / 10)) (omega arith)

four_rest : (n : ℕ) → digits 4 (n % 10000) ≡ digits 4 n
four_rest n = let q : n % 10000 / 10 ≡ n / 10 % 1000 = omega arith in ap₂ (λ w d. w ++ (48 + d) ∷ []) (ap (digits 3) q ∙ three_rest (n / 10)) (omega arith)

five_rest : (n : ℕ) → digits 5 (n % 100000) ≡ digits 5 n
five_rest n = let q : n % 100000 / 10 ≡ n / 10 % 10000 = omega arith in ap₂ (λ w d. w ++ (48 + d) ∷ []) (ap (digits 4) q ∙ four_rest (n / 10)) (omega arith)

-- what `{:02}` and `{:05}` write
pub two_wide : (n : ℕ) → styled_decimal (format_spec 32 0 4 2 18446744073709551615) (n % 100) ≡ digits 2 n
unfolding padded_integral char_count
two_wide n =
    let ds = decimal (n % 100) in
    let fill : 2 - length ds - 0 - 0 ≡ 2 - length ds = omega arith in
    ap₂ (λ j w. replicate j 48 ++ w) fill (append-nil ds) ∙ filled (n % 100) (omega arith) 2 (lit< tt) (omega arith) ∙ two_rest n

pub five_wide : (n : ℕ) → styled_decimal (format_spec 32 0 4 5 18446744073709551615) (n % 100000) ≡ digits 5 n
unfolding padded_integral char_count
five_wide n =
    let ds = decimal (n % 100000) in
    let fill : 5 - length ds - 0 - 0 ≡ 5 - length ds = omega arith in
    ap₂ (λ j w. replicate j 48 ++ w) fill (append-nil ds) ∙ filled (n % 100000) (omega arith) 5 (lit< tt) (omega arith) ∙ five_rest n
