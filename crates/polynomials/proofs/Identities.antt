-- Products of polynomials commute and associate, as far as their coefficients tell.
use Rattle.std.proofs.Common.{◌≡◌, ℕ, zero, suc, ◌+◌, ◌*◌, ◌^◌, ◌<◌, ◌≤◌, List, [], ◌∷◌, sym, refl, ap, ◌∙◌, ap₂, le_refl, add-zero, add_assoc, mul_assoc, suc-mul, add-mul, mul-le-mul, add_comm, pow-suc, mul-zero, zero-mul, mul-one, mul-add, arith, pow-add}
use native.Mathlib.Nat.{pow-zero}
use Rattle.polynomials.specs.Polynomial.{Exponents, none, together, Polynomial, weighed, total, degree, constant, product, power}
use Rattle.polynomials.specs.Cells.{Holds, PowerRoom}
use Rattle.polynomials.proofs.Values.{weighed_product, weighed_agree, weighed_scale}
use Rattle.polynomials.proofs.Holding.{total_product, degree_product_le}

weighed_zero : (p : Polynomial) → weighed (λ e. 0) p ≡ 0
weighed_zero [] = refl
weighed_zero (m ∷ p) = let h = weighed_zero p in let z = mul-zero m.factor in omega arith

weighed_sum : (f g : Exponents → ℕ) (p : Polynomial) → weighed (λ e. f e + g e) p ≡ weighed f p + weighed g p
weighed_sum f g [] = refl
weighed_sum f g (m ∷ p) = let h = weighed_sum f g p in let d = mul-add m.factor (f m.exponents) (g m.exponents) in omega arith

-- two sums may change places
weighed_swap : (v : Exponents → Exponents → ℕ) (p q : Polynomial) → weighed (λ a. weighed (λ b. v a b) q) p ≡ weighed (λ b. weighed (λ a. v a b) p) q
weighed_swap v [] q = sym (weighed_zero q)
weighed_swap v (m ∷ p) q =
    ap₂ ◌+◌ (sym (weighed_scale m.factor (v m.exponents) q)) (weighed_swap v p q)
    ∙ sym (weighed_sum (λ b. m.factor * v m.exponents b) (λ b. weighed (λ a. v a b) p) q)

together_comm : (a b : Exponents) → together a b ≡ together b a
together_comm a b = λ i. record { e0 = add_comm a.e0 b.e0 i; e1 = add_comm a.e1 b.e1 i; e2 = add_comm a.e2 b.e2 i; e3 = add_comm a.e3 b.e3 i }

together_assoc : (a b c : Exponents) → together (together a b) c ≡ together a (together b c)
together_assoc a b c = λ i. record {
  e0 = add_assoc a.e0 b.e0 c.e0 i;
  e1 = add_assoc a.e1 b.e1 c.e1 i;
  e2 = add_assoc a.e2 b.e2 c.e2 i;
  e3 = add_assoc a.e3 b.e3 c.e3 i;
}

together_none : (a : Exponents) → together a none ≡ a
together_none a = λ i. record { e0 = add-zero a.e0 i; e1 = add-zero a.e1 i; e2 = add-zero a.e2 i; e3 = add-zero a.e3 i }

-- polynomials that are the same to every weight, and so have the same coefficients
abbrev pub Same : Polynomial → Polynomial → Type 0
Same p q = (w : Exponents → ℕ) → weighed w p ≡ weighed w q

pub product_comm : (p q : Polynomial) → Same (product p q) (product q p)
product_comm p q w =
    weighed_product w p q ∙ weighed_swap (λ a b. w (together a b)) p q
    ∙ weighed_agree (λ b. weighed (λ a. w (together a b)) p) (λ b. weighed (λ a. w (together b a)) p) q
    (λ b. weighed_agree (λ a. w (together a b)) (λ a. w (together b a)) p (λ a. ap w (together_comm a b)))
    ∙ sym (weighed_product w q p)

pub product_assoc : (p q r : Polynomial) → Same (product (product p q) r) (product p (product q r))
product_assoc p q r w =
    weighed_product w (product p q) r
    ∙ weighed_product (λ a. weighed (λ b. w (together a b)) r) p q
    ∙ weighed_agree (λ a. weighed (λ b. weighed (λ c. w (together (together a b) c)) r) q) (λ a. weighed (λ b. w (together a b)) (product q r)) p
    (λ a. weighed_agree (λ b. weighed (λ c. w (together (together a b) c)) r) (λ b. weighed (λ c. w (together a (together b c))) r) q
    (λ b. weighed_agree (λ c. w (together (together a b) c)) (λ c. w (together a (together b c))) r (λ c. ap w (together_assoc a b c)))
    ∙ sym (weighed_product (λ b. w (together a b)) q r))
    ∙ sym (weighed_product w p (product q r))

pub product_one : (p : Polynomial) → Same (product p (constant 1)) p
product_one p w =
    weighed_product w p (constant 1)
    ∙ weighed_agree (λ a. 1 * w (together a none) + 0) w p (λ a. let e = ap w (together_none a) in omega arith)

-- factors may be replaced
pub product_left : (p p' q : Polynomial) → Same p p' → Same (product p q) (product p' q)
product_left p p' q h w = weighed_product w p q ∙ h (λ a. weighed (λ b. w (together a b)) q) ∙ sym (weighed_product w p' q)

pub product_right : (p q q' : Polynomial) → Same q q' → Same (product p q) (product p q')
product_right p q q' h w =
    weighed_product w p q
    ∙ weighed_agree (λ a. weighed (λ b. w (together a b)) q) (λ a. weighed (λ b. w (together a b)) q') p (λ a. h (λ b. w (together a b)))
    ∙ sym (weighed_product w p q')

-- ── p times q, n times ──

unfoldable pub raised : Polynomial → Polynomial → ℕ → Polynomial
raised p q zero = p
raised p q (suc n) = product (raised p q n) q

pub raised_start : (p q : Polynomial) → raised p q 0 ≡ p
unfolding raised
raised_start p q = refl

pub raised_more : (p q : Polynomial) (n : ℕ) → raised p q (n + 1) ≡ product (raised p q n) q
unfolding raised
raised_more p q n = let e : n + 1 ≡ suc n = omega arith in ap (raised p q) e

pub raised_power : (p q : Polynomial) (n : ℕ) → Same (raised p q n) (product p (power q n))
unfolding raised
raised_power p q zero w = sym (product_one p w)
raised_power p q (suc n) w =
    product_left (raised p q n) (product p (power q n)) q (raised_power p q n) w
    ∙ product_assoc p (power q n) q w
    ∙ product_right p (product (power q n) q) (product q (power q n)) (product_comm (power q n) q) w

raised_total : (p q : Polynomial) (n : ℕ) → total (raised p q n) ≡ total p * total q ^ n
unfolding raised
raised_total p q zero = sym (rw (pow-zero, mul-one))
raised_total p q (suc n) = total_product (raised p q n) q ∙ ap (λ k. k * total q) (raised_total p q n) ∙ mul_assoc (total p) (total q ^ n) (total q) ∙ ap (λ k. total p * k) (sym (pow-suc (total q) n))

raised_degree : (i : ℕ) (p q : Polynomial) (n : ℕ) → degree i (raised p q n) ≤ degree i p + n * degree i q
unfolding raised
raised_degree i p q zero = let z = zero-mul (degree i q) in omega arith
raised_degree i p q (suc n) = let h = raised_degree i p q n in let l = degree_product_le i (raised p q n) q in let m = suc-mul n (degree i q) in omega arith

module _ (a b c : List ℕ) (n : ℕ) (p q : Polynomial) (room : PowerRoom a b n p q) where
  -- there is room for one factor more
  pub turn_room : (k : ℕ) → k < n → Holds c (raised p q k) → PowerRoom c b 1 (raised p q k) q
  turn_room k h holds = record {
    left = holds;
    right = room.right;
    degrees = λ i l. let d = raised_degree i p q k in let e = room.degrees i l in let m = more (degree i q) in omega arith;
    room = λ j l. fits j l;
  }
    where
      more : (d : ℕ) → k * d + 1 * d ≤ n * d
      more d = let e = add-mul k 1 d in let f : (k + 1) * d ≤ n * d = mul-le-mul (omega arith) (le_refl d) in omega arith

      fits : (j : ℕ) → j ≤ 1 → total (raised p q k) * total q ^ j ≤ 2147483647
      fits j l =
          let t : total (raised p q k) * total q ^ j ≡ total p * total q ^ (k + j) =
          ap (λ x. x * total q ^ j) (raised_total p q k) ∙ mul_assoc (total p) (total q ^ k) (total q ^ j) ∙ ap (λ x. total p * x) (sym (pow-add (total q) k j)) in
          let r = room.room (k + j) (omega arith) in
          omega arith

  pub holds_power : Holds c (raised p q n) → Holds c (product p (power q n))
  holds_power holds = record { full = holds.full; each = λ k h. holds.each k h ∙ raised_power p q n _ }
