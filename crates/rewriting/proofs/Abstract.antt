-- Newman's lemma and what follows from it, for any relation R.
use Rattle.std.proofs.Common.{◌≡◌, ◌⊎◌, ◌↔◌, sym, refl, ◌∙◌, subst, inl, inr}
use mathlib.Core.WellFounded.{Acc}
use Rattle.rewriting.specs.Relation.{Star, done, step, Conversion, same, forth, back, Joinable, LocallyConfluent, Confluent, ChurchRosser, Normal, NormalForm, Terminating}

module _ {A : Type 0} {R : A → A → Type 0} where
  -- runs are composed
  pub append : {x y z : A} → Star R x y → Star R y z → Star R x z
  append done s = s
  append (step r s) u = step r (append s u)

  pub single : {x y : A} → R x y → Star R x y
  single r = step r done

  -- equal elements are joined by the empty run
  pub star_eq : {x y : A} → x ≡ y → Star R x y
  star_eq {x} e = subst (λ z. Star R x z) e done

  pub swap : {x y : A} → Joinable R x y → Joinable R y x
  swap j = (j.0, j.2, j.1)

  -- a join may be started earlier on both sides
  pub widen : {x y x' y' : A} → Star R x x' → Star R y y' → Joinable R x' y' → Joinable R x y
  widen s u j = (j.0, append s j.1, append u j.2)

  module _ (local : LocallyConfluent R) where
    -- Newman's lemma at one accessible element x: two runs from x can be joined.
    -- Both first steps are joined by local confluence; the induction hypothesis closes the left half below the
    -- first step of one run, and then the whole below the first step of the other.
    pub newman_at : {x : A} → Acc (λ y x. R x y) x → {y z : A} → Star R x y → Star R x z → Joinable R y z
    newman_at {x} a {y} {z} done u = (z, u, done)
    newman_at {x} a {y} {z} (step r s) done = (y, done, step r s)
    newman_at (Acc.intro x h) {y} {z} (step {y = y₁} r s) (step {y = z₁} q u) =
        let m = local x y₁ z₁ r q in
        let left = newman_at (h y₁ r) s m.1 in
        let right = newman_at (h z₁ q) (append m.2 left.2) u in
        (right.0, append left.1 right.1, right.2)

  -- Newman's lemma: a terminating and locally confluent relation is confluent
  pub newman : Terminating R → LocallyConfluent R → Confluent R
  newman t local x y z s u = newman_at local (t x) s u

  -- a confluent relation is Church-Rosser
  pub church_rosser : Confluent R → ChurchRosser R
  church_rosser c x y same = (x, done, done)
  church_rosser c x y (forth {y = x₁} r v) =
      let j = church_rosser c x₁ y v in
      (j.0, step r j.1, j.2)
  church_rosser c x y (back {y = x₁} r v) =
      let j = church_rosser c x₁ y v in
      let m = c x₁ x j.0 (single r) j.1 in
      (m.0, m.1, append j.2 m.2)

  -- conversions are composed and reversed, and a run is one
  pub conv_append : {x y z : A} → Conversion R x y → Conversion R y z → Conversion R x z
  conv_append same v = v
  conv_append (forth r s) v = forth r (conv_append s v)
  conv_append (back r s) v = back r (conv_append s v)

  pub conv_sym : {x y : A} → Conversion R x y → Conversion R y x
  conv_sym same = same
  conv_sym (forth r s) = conv_append (conv_sym s) (back r same)
  conv_sym (back r s) = conv_append (conv_sym s) (forth r same)

  pub conv_star : {x y : A} → Star R x y → Conversion R x y
  conv_star done = same
  conv_star (step r s) = forth r (conv_star s)

  pub conv_join : {x y : A} → Joinable R x y → Conversion R x y
  conv_join j = conv_append (conv_star j.1) (conv_sym (conv_star j.2))

  pub conv_eq : {x y : A} → x ≡ y → Conversion R x y
  conv_eq {x} e = subst (λ z. Conversion R x z) e same

  -- a run from a normal form is empty
  pub stuck : {x y : A} → Normal R x → Star R x y → x ≡ y
  stuck n done = refl
  stuck n (step {y = y₁} r s) = absurd (n y₁ r)

  -- joinable normal forms are equal
  pub normal_unique : {x y : A} → Normal R x → Normal R y → Joinable R x y → x ≡ y
  normal_unique n m j = stuck n j.1 ∙ sym (stuck m j.2)

  -- normal forms are unique
  pub nf_unique : Confluent R → {x n m : A} → NormalForm R x n → NormalForm R x m → n ≡ m
  nf_unique c {x} {n} {m} a b = normal_unique a.1 b.1 (c x n m a.0 b.0)

  -- an accessible element has a normal form, if "is there a step?" can be decided
  pub normalise : ((x : A) → ((y : A) × R x y) ⊎ Normal R x) → {x : A} → Acc (λ y x. R x y) x → (n : A) × NormalForm R x n
  normalise next (Acc.intro x h) = go (next x) (λ y r. normalise next (h y r))
    where
      go : ((y : A) × R x y) ⊎ Normal R x → ((y : A) → R x y → (n : A) × NormalForm R y n) → (n : A) × NormalForm R x n
      go (inl s) below =
          let r = below s.0 s.1 in
          (r.0, (step s.1 r.1.0, r.1.1))
      go (inr n) below = (x, (done, n))

  -- The word problem: under confluence, x and y are convertible exactly if their normal forms are equal.
  pub word_problem : Confluent R → {x y n m : A} → NormalForm R x n → NormalForm R y m → Conversion R x y ↔ (n ≡ m)
  word_problem c {x} {y} {n} {m} a b = (
    λ v.
        normal_unique a.1 b.1
        (church_rosser c n m (conv_append (conv_sym (conv_star a.0)) (conv_append v (conv_star b.0)))),
    λ e. conv_append (conv_star a.0) (conv_append (conv_eq e) (conv_sym (conv_star b.0))),
  )
