-- What stands at an offset: it is unique, every offset has its term, and a term's arguments stand behind its code.
use Rattle.std.proofs.Common.{◌≡◌, ℕ, ◌+◌, ◌<◌, ◌≤◌, ◌⊎◌, List, ◌++◌, length, get_or, drop, sym, refl, ap, ◌∙◌, subst, inl, inr, append_assoc, add_assoc, add-one, arith, length-append, drop-cons, drop-drop, drop_at}
use native.Mathlib.Decide.{dec_lt}
use Rattle.terms.specs.Term.{Kind, Tree, var, node, nil, cons, Term, Terms, how_many, Occurs, size}
use Rattle.terms.specs.Prefix.{Arities, WellSorted, prefix}
use Rattle.terms.specs.Place.{Context, plug, place, PartAt}
use Rattle.terms.proofs.Places.{part_at, prefix_plug, before_length, bytes_before, bytes_behind}
use Rattle.terms.proofs.Reading.{size_pos, prefix_length, reading_unique}
use Rattle.terms.proofs.Parts.{sorted_part}
use Rattle.unification.specs.Standing.{Stands, IsForest, Ends}

pub stands_below : (sig : Arities) (g : List ℕ) (i : ℕ) (t : Term) → Stands sig g i t → i < length g
stands_below sig g i t h = let a = size_pos t in let b = h.inside in omega arith

pub stands_unique : {k : Kind} (sig : Arities) (g : List ℕ) (i : ℕ) (t u : Tree k) → how_many t ≡ how_many u → Stands sig g i t → Stands sig g i u → t ≡ u
stands_unique sig g i t u n a b = (reading_unique sig 8 8 t u _ _ a.sorted b.sorted n (sym a.reads ∙ b.reads)).0

one_term : (t u : Term) → how_many t ≡ how_many u
one_term (var x) (var y) = refl
one_term (var x) (node g us) = refl
one_term (node f ts) (var y) = refl
one_term (node f ts) (node g us) = refl

-- one term stands at an offset
pub stands_one : (sig : Arities) (g : List ℕ) (i : ℕ) (t u : Term) → Stands sig g i t → Stands sig g i u → t ≡ u
stands_one sig g i t u a b = stands_unique sig g i t u (one_term t u) a b

-- every offset has its term
pub stands_hole : {k : Kind} (sig : Arities) (g : List ℕ) (C : Context k) (q : Term) → WellSorted sig 8 (plug C q) → g ≡ prefix (plug C q) → Stands sig g (place C) q
stands_hole sig g C q w e =
    record {
      sorted = sorted_part sig 8 C q w;
      reads = from_here ∙ ap (λ b. prefix q ++ b) (sym from_end);
      inside = let l = long in let m = prefix_length q in let n = before_length C in omega arith;
    }
  where
    whole : g ≡ bytes_before C ++ (prefix q ++ bytes_behind C)
    whole = e ∙ prefix_plug C q

    long : length g ≡ length (bytes_before C) + (length (prefix q) + length (bytes_behind C))
    long = ap length whole ∙ simp length-append

    from_here : drop (place C) g ≡ prefix q ++ bytes_behind C
    from_here = ap (drop (place C)) whole ∙ drop_at (bytes_before C) (prefix q ++ bytes_behind C) (place C) (before_length C)

    from_end : drop (place C + size q) g ≡ bytes_behind C
    from_end = sym (drop-drop (size q) (place C) g) ∙ ap (drop (size q)) from_here ∙ drop_at (prefix q) (bytes_behind C) (size q) (prefix_length q)

pub stands_at : (sig : Arities) (g : List ℕ) (i : ℕ) → IsForest sig g → i < length g → (t : Term) × Stands sig g i t
stands_at sig g i f h =
    let l = ap length f.2 in
    let m = prefix_length f.0 in
    go (part_at f.0 i (omega arith))
  where
    go : PartAt f.0 i → (t : Term) × Stands sig g i t
    go p = (p.term, subst (λ n. Stands sig g n p.term) p.at (stands_hole sig g p.context p.term (subst (WellSorted sig 8) p.splits f.1) (f.2 ∙ ap prefix p.splits)))

-- the term at an offset ends behind it, and not behind the codes
pub end_range : (sig : Arities) (g end : List ℕ) (r : ℕ) → IsForest sig g → Ends sig g end → r < length g → (r ≤ get_or end r 0) × (get_or end r 0 ≤ length g)
end_range sig g end r forest ends h =
    let t = stands_at sig g r forest h in
    let stop = ends r t.0 t.1 in
    let inside = t.1.inside in
    (omega arith, omega arith)

-- the first of a list of terms, and the others
pub stands_head : (sig : Arities) (g : List ℕ) (a : ℕ) (t : Term) (ts : Terms) → Stands sig g a (cons t ts) → Stands sig g a t
stands_head sig g a t ts h =
    record {
      sorted = h.sorted.0;
      reads = h.reads ∙ append_assoc (prefix t) (prefix ts) (drop (a + (size t + size ts)) g) ∙ ap (λ b. prefix t ++ b) (sym behind);
      inside = let b = h.inside in omega arith;
    }
  where
    behind : drop (a + size t) g ≡ prefix ts ++ drop (a + (size t + size ts)) g
    behind =
        sym (drop-drop (size t) a g) ∙ ap (drop (size t)) (h.reads ∙ append_assoc (prefix t) (prefix ts) (drop (a + (size t + size ts)) g))
        ∙ drop_at (prefix t) (prefix ts ++ drop (a + (size t + size ts)) g) (size t) (prefix_length t)

pub stands_tail : (sig : Arities) (g : List ℕ) (a : ℕ) (t : Term) (ts : Terms) → Stands sig g a (cons t ts) → Stands sig g (a + size t) ts
stands_tail sig g a t ts h =
    record {
      sorted = h.sorted.1;
      reads =
          sym (drop-drop (size t) a g) ∙ ap (drop (size t)) (h.reads ∙ append_assoc (prefix t) (prefix ts) (drop (a + (size t + size ts)) g))
          ∙ drop_at (prefix t) (prefix ts ++ drop (a + (size t + size ts)) g) (size t) (prefix_length t)
          ∙ ap (λ n. prefix ts ++ drop n g) (sym (add_assoc a (size t) (size ts)));
      inside = let b = h.inside in omega arith;
    }

-- a variable stands as its code
pub code_var : (sig : Arities) (g : List ℕ) (i x : ℕ) → Stands sig g i (var x) → get_or g i 0 ≡ x
code_var sig g i x h = let s = drop-cons g i 0 (let b = h.inside in omega arith) in let r = h.reads in cc

pub code_node : (sig : Arities) (g : List ℕ) (i f : ℕ) (ts : Terms) → Stands sig g i (node f ts) → get_or g i 0 ≡ f
code_node sig g i f ts h = let s = drop-cons g i 0 (let b = h.inside in omega arith) in let r = h.reads in cc

-- a symbol's arguments stand behind its code
pub stands_arguments : (sig : Arities) (g : List ℕ) (i f : ℕ) (ts : Terms) → Stands sig g i (node f ts) → Stands sig g (i + 1) ts
stands_arguments sig g i f ts h =
    record {
      sorted = h.sorted.2;
      reads = rest ∙ ap (λ n. prefix ts ++ drop n g) (omega arith);
      inside = let b = h.inside in omega arith;
    }
  where
    rest : drop (i + 1) g ≡ prefix ts ++ drop (i + (1 + size ts)) g
    rest = let s = drop-cons g i 0 (let b = h.inside in omega arith) in let r = h.reads in rw add-one (cc)

-- the code tells a variable from a symbol
pub is_var : (sig : Arities) (g : List ℕ) (i : ℕ) (t : Term) → Stands sig g i t → 128 ≤ get_or g i 0 → t ≡ var (get_or g i 0)
is_var sig g i (var x) h v = ap var (sym (code_var sig g i x h))
is_var sig g i (node f ts) h v = let e = code_node sig g i f ts h in absurd (omega (arith, h.sorted.0))

pub is_node : (sig : Arities) (g : List ℕ) (i : ℕ) (t : Term) → Stands sig g i t → get_or g i 0 < 128 → (ts : Terms) × (t ≡ node (get_or g i 0) ts)
is_node sig g i (var x) h v = let e = code_var sig g i x h in absurd (omega (arith, h.sorted.0))
is_node sig g i (node f ts) h v = (ts, ap (λ c. node c ts) (sym (code_node sig g i f ts h)))

-- a variable's code among the codes of a term is an occurrence of it
pub occurs_at : {k : Kind} (sig : Arities) (g : List ℕ) (i j : ℕ) (u : Tree k) → Stands sig g i u → i ≤ j → j < i + size u → 128 ≤ get_or g j 0 → Occurs (get_or g j 0) u
occurs_at sig g i j (var x) h a b v = let e : j ≡ i = omega arith in ap (λ n. get_or g n 0) e ∙ code_var sig g i x h
occurs_at sig g i j (node f ts) h a b v = go (dec_lt i j) (λ l m. occurs_at sig g (i + 1) j ts (stands_arguments sig g i f ts h) l m v)
  where
    go : Dec (i < j) → (i + 1 ≤ j → j < (i + 1) + size ts → Occurs (get_or g j 0) ts) → Occurs (get_or g j 0) ts
    go (yes l) r = r (omega arith) (omega arith)
    go (no n) r =
        let e : j ≡ i = omega arith in
        let d = ap (λ n. get_or g n 0) e in
        let c = code_node sig g i f ts h in
        absurd (omega (arith, h.sorted.0))
occurs_at sig g i j nil h a b v = absurd (omega arith)
occurs_at sig g i j (cons t ts) h a b v =
    go (dec_lt j (i + size t)) (λ l. occurs_at sig g i j t (stands_head sig g i t ts h) a l v)
    (λ l m. occurs_at sig g (i + size t) j ts (stands_tail sig g i t ts h) l m v)
  where
    go : Dec (j < i + size t) → (j < i + size t → Occurs (get_or g j 0) t) → (i + size t ≤ j → j < (i + size t) + size ts → Occurs (get_or g j 0) ts) → Occurs (get_or g j 0) t ⊎ Occurs (get_or g j 0) ts
    go (yes l) r r' = inl (r l)
    go (no n) r r' = inr (r' (omega arith) (omega arith))

-- and each occurrence has its offset
pub record OccursAt (g : List ℕ) (i n x : ℕ) : Type 0 where
  pub at_offset : ℕ
  pub from : i ≤ at_offset
  pub below : at_offset < i + n
  pub code : get_or g at_offset 0 ≡ x

pub offset_of : {k : Kind} (sig : Arities) (g : List ℕ) (i x : ℕ) (u : Tree k) → Stands sig g i u → Occurs x u → OccursAt g i (size u) x
offset_of sig g i x (var y) h o = record { at_offset = i; from = omega arith; below = omega arith; code = code_var sig g i y h ∙ sym o }
offset_of sig g i x (node f ts) h o =
    let r = offset_of sig g (i + 1) x ts (stands_arguments sig g i f ts h) o in
    record { at_offset = r.at_offset; from = omega arith; below = omega arith; code = r.code }
offset_of sig g i x nil h o = absurd o
offset_of sig g i x (cons t ts) h (inl o) =
    let r = offset_of sig g i x t (stands_head sig g i t ts h) o in
    record { at_offset = r.at_offset; from = r.from; below = omega arith; code = r.code }
offset_of sig g i x (cons t ts) h (inr o) =
    let r = offset_of sig g (i + size t) x ts (stands_tail sig g i t ts h) o in
    record { at_offset = r.at_offset; from = omega arith; below = omega arith; code = r.code }
