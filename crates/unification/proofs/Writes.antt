-- Codes appended one by one: a symbol, a variable that is bound to a term, and the end of the room.
use Rattle.std.proofs.Common.{◌≡◌, ℕ, ◌+◌, ◌-◌, ◌<◌, ◌≤◌, cond, ◌⊎◌, List, [], ◌∷◌, ◌++◌, length, get_or, take, drop, sym, ap, ◌∙◌, ap₂, inl, inr, append_assoc, append-nil, arith, length-append, length-drop, get_or-drop, take_at, take-add, le-ltb, lt-ltb}
use Rattle.std.proofs.lemmas.List.{take_more}
use Rattle.terms.specs.Term.{Term, Subst, sub, size}
use Rattle.terms.specs.Prefix.{Arities, prefix, expand, image}
use Rattle.terms.proofs.Reading.{prefix_length, prefix_sub, expand_append}
use Rattle.unification.specs.Standing.{Stands, IsForest, Ends}
use Rattle.unification.specs.Classes.{Classes, Solves, Bindings}
use Rattle.unification.specs.Writing.{written, spliced, Below}
use Rattle.unification.proofs.StandingFacts.{stands_at}
use Rattle.unification.proofs.Closure.{kind_of}

-- ── what is written ──

-- a part of what is to be written, and the rest
written_split : (μ : Subst) (g : List ℕ) (from j to : ℕ) → from ≤ j → j ≤ to → written μ g from to ≡ written μ g from j ++ expand (image μ) (take (to - j) (drop (j - from) (drop from g)))
written_split μ g from j to a b =
    ap (λ n. expand (image μ) (take n (drop from g))) (parts)
    ∙ ap (expand (image μ)) (take-add (j - from) (to - j) (drop from g))
    ∙ expand_append (image μ) (take (j - from) (drop from g)) (take (to - j) (drop (j - from) (drop from g)))
  where
    parts : to - from ≡ (j - from) + (to - j)
    parts = omega arith

pub written_longer : (μ : Subst) (g : List ℕ) (from j to : ℕ) → from ≤ j → j ≤ to → length (written μ g from j) ≤ length (written μ g from to)
written_longer μ g from j to a b =
    let e = ap length (written_split μ g from j to a b) ∙ length-append (written μ g from j) (expand (image μ) (take (to - j) (drop (j - from) (drop from g)))) in
    omega arith

pub written_more : (μ : Subst) (g : List ℕ) (from j : ℕ) → from ≤ j → j < length g → written μ g from (j + 1) ≡ written μ g from j ++ image μ (get_or g j 0)
written_more μ g from j a b =
    ap (λ n. expand (image μ) (take n (drop from g))) next
    ∙ ap (expand (image μ)) (take_more (drop from g) (j - from) 0 inside ∙ ap (λ c. take (j - from) (drop from g) ++ (c ∷ [])) here)
    ∙ expand_append (image μ) (take (j - from) (drop from g)) (get_or g j 0 ∷ [])
    ∙ ap (λ ys. written μ g from j ++ ys) (append-nil (image μ (get_or g j 0)))
  where
    next : (j + 1) - from ≡ (j - from) + 1
    next = omega arith

    inside : j - from < length (drop from g)
    inside = simp length-drop (omega arith)

    here : get_or (drop from g) (j - from) 0 ≡ get_or g j 0
    here = get_or-drop from g (j - from) 0 ∙ ap (λ n. get_or g n 0) (sum)
      where
        sum : from + (j - from) ≡ j
        sum = omega arith

pub image_symbol : (μ : Subst) (c : ℕ) → c < 128 → image μ c ≡ c ∷ []
image_symbol μ c h = ap (λ b. cond b (c ∷ []) (prefix (μ c))) (lt-ltb c 128 h)

pub image_variable : (μ : Subst) (c : ℕ) → 128 ≤ c → image μ c ≡ prefix (μ c)
image_variable μ c h = ap (λ b. cond b (c ∷ []) (prefix (μ c))) (le-ltb c 128 h)

-- the codes of a term under μ are those of its instance
pub written_term : (sig : Arities) (g : List ℕ) (μ : Subst) (i : ℕ) (t : Term) → Stands sig g i t → written μ g i (i + size t) ≡ prefix (sub μ t)
written_term sig g μ i t h =
    let long : (i + size t) - i ≡ size t = omega arith in
    let codes : take ((i + size t) - i) (drop i g) ≡ prefix t = ap₂ take long h.reads ∙ take_at (prefix t) (drop (i + size t) g) (size t) (prefix_length t) in
    ap (expand (image μ)) codes ∙ sym (prefix_sub sig 8 μ t h.sorted)

-- a symbol, or a variable that is bound to a variable, is written as the code that represents it
pub image_code : (sig : Arities) (g rep : List ℕ) (μ : Subst) (j : ℕ) → Classes g rep → Solves sig g rep μ → j < length g → (get_or g j 0 < 128) ⊎ (128 ≤ get_or g (get_or rep j 0) 0) → image μ (get_or g j 0) ≡ get_or g (get_or rep j 0) 0 ∷ []
image_code sig g rep μ j c sol h e = go (kind_of (get_or g j 0)) e
  where
    go : (128 ≤ get_or g j 0) ⊎ (get_or g j 0 < 128) → (get_or g j 0 < 128) ⊎ (128 ≤ get_or g (get_or rep j 0) 0) → image μ (get_or g j 0) ≡ get_or g (get_or rep j 0) 0 ∷ []
    go (inr v) e = image_symbol μ (get_or g j 0) v ∙ ap (λ x. x ∷ []) (sym (c.symbol j h v))
    go (inl v) (inl f) = absurd (omega arith)
    go (inl v) (inr w) = image_variable μ (get_or g j 0) v ∙ ap prefix (sol.root j h v w)

-- a bound variable is written as the term that it is bound to is
pub image_bound : (sig : Arities) (g end rep : List ℕ) (μ : Subst) (j : ℕ) → IsForest sig g → Ends sig g end → Classes g rep → Solves sig g rep μ → j < length g → 128 ≤ get_or g j 0 → image μ (get_or g j 0) ≡ written μ g (get_or rep j 0) (get_or end (get_or rep j 0) 0)
image_bound sig g end rep μ j forest ends c sol h v = go (stands_at sig g (get_or rep j 0) forest (c.inside j h))
  where
    go : (t : Term) × Stands sig g (get_or rep j 0) t → image μ (get_or g j 0) ≡ written μ g (get_or rep j 0) (get_or end (get_or rep j 0) 0)
    go x =
        let t = x.0 in
        let r = get_or rep j 0 in
        image_variable μ (get_or g j 0) v
        ∙ ap prefix (sol.bound j t h v x.1)
        ∙ sym (written_term sig g μ r t x.1)
        ∙ ap (written μ g r) (sym (ends r t x.1))

-- ── the recursion's needs ──

-- what the variables of a bound term are bound to has a lower rank
pub below_term : (sig : Arities) (g end rep rank : List ℕ) (r : ℕ) → IsForest sig g → Ends sig g end → Bindings sig g rep rank → r < length g → get_or g r 0 < 128 → Below g rep rank r (get_or end r 0) (get_or rank r 0)
below_term sig g end rep rank r forest ends b h v j from to w x =
    let t = stands_at sig g r forest h in
    let stop = ends r t.0 t.1 in
    (b.ordered r j t.0 (b.ranked r h v) v t.1 from (omega arith) w x).1

-- ── a turn ──

-- the codes ys for the code at j are appended to those before
pub turn_writes : (μ : Subst) (g old mid new : List ℕ) (from j : ℕ) (ys : List ℕ) → from ≤ j → j < length g → image μ (get_or g j 0) ≡ ys → mid ≡ old ++ written μ g from j → new ≡ mid ++ ys → new ≡ old ++ written μ g from (j + 1)
turn_writes μ g old mid new from j ys a b e x y =
    y
    ∙ ap (λ z. z ++ ys) x
    ∙ append_assoc old (written μ g from j) ys
    ∙ ap (λ z. old ++ z) (sym (written_more μ g from j a b ∙ ap (λ z. written μ g from j ++ z) e))

-- if they do not fit into the room, neither does the whole
pub turn_fails : (μ : Subst) (g old mid : List ℕ) (room from j to : ℕ) (ys : List ℕ) → from ≤ j → j < length g → j < to → image μ (get_or g j 0) ≡ ys → mid ≡ old ++ written μ g from j → room < length mid + length ys → room < length old + length (written μ g from to)
turn_fails μ g old mid room from j to ys a b c e x full =
    let so_far = ap length x ∙ length-append old (written μ g from j) in
    let one_more = ap length (written_more μ g from j a b ∙ ap (λ z. written μ g from j ++ z) e) ∙ length-append (written μ g from j) ys in
    let longer = written_longer μ g from (j + 1) to (omega arith) (omega arith) in
    omega arith

-- before the first turn nothing is appended
pub written_none : (μ : Subst) (g old : List ℕ) (from : ℕ) → old ≡ old ++ written μ g from from
written_none μ g old from =
    let none : from - from ≡ 0 = omega arith in
    sym (ap (λ n. old ++ expand (image μ) (take n (drop from g))) none ∙ append-nil old)

-- every rank is below 255
pub below_all : (sig : Arities) (g rep rank : List ℕ) (from to : ℕ) → Bindings sig g rep rank → Below g rep rank from to 255
below_all sig g rep rank from to b j h k v w = let s = b.small (get_or rep j 0) in omega arith

-- ── three writes one after the other ──

pub spliced_length : (μ : Subst) (g : List ℕ) (p q r s : ℕ) → length (spliced μ g p q r s) ≡ length (written μ g 0 p) + (length (written μ g q (length g)) + length (written μ g r s))
spliced_length μ g p q r s = simp length-append

pub spliced_written : (μ : Subst) (g start one two three : List ℕ) (p q r s : ℕ) → start ≡ [] → one ≡ start ++ written μ g 0 p → two ≡ one ++ written μ g q (length g) → three ≡ two ++ written μ g r s → three ≡ spliced μ g p q r s
spliced_written μ g start one two three p q r s none x y z =
    z
    ∙ ap (λ w. w ++ written μ g r s) (y ∙ ap (λ w. w ++ written μ g q (length g)) (x ∙ ap (λ w. w ++ written μ g 0 p) none))
    ∙ append_assoc (written μ g 0 p) (written μ g q (length g)) (written μ g r s)
