-- From the first term in some bytes: whether they are one term, and the part at a place.
use Rattle.std.proofs.Common.{◌≡◌, ℕ, ◌<◌, ◌≤◌, Bool, eqb, Decides, List, [], ◌++◌, length, take, drop, Some, None, Option, sym, ap, ◌∙◌, subst, ap₂, append-nil, arith, length-append}
use Rattle.std.proofs.lemmas.List.{take_at, drop_all, nil_from_length}
use Rattle.std.proofs.lemmas.Bool.{true≢false, eqb-true, eq-eqb}
use Rattle.std.specs.Option.{option_eq}
use Rattle.terms.specs.Term.{Kind, Term, size}
use Rattle.terms.specs.Prefix.{Arities, prefix, WellSorted, Reads, IsTerm, Begins, FirstTerm}
use Rattle.terms.specs.Side.{IsSide}
use Rattle.terms.specs.Place.{Context, hole, under, head, tail, plug, part, TermAt, PartOfTerm}
use Rattle.terms.proofs.Reading.{prefix_length, size_pos, terms_unique}
use Rattle.terms.proofs.Places.{bytes_behind, part_at, at_place, parts_agree_with_contexts}

module _ (sig : Arities) (n : ℕ) where
  -- terms that begin the same bytes are equal
  pub begins_unique : (bs : List ℕ) (t u : Term) → Begins sig n bs t → Begins sig n bs u → t ≡ u
  begins_unique bs t u a b = (terms_unique sig n n t u a.rest b.rest a.sorted b.sorted (a.form ∙ sym b.form)).0

  pub begins_within : (bs : List ℕ) (t : Term) → Begins sig n bs t → size t ≤ length bs
  begins_within bs t b = omega (arith, prefix_length t, length-append (prefix t) b.rest, ap length b.form)

  begins_nothing : (t : Term) → Begins sig n [] t → ⊥
  begins_nothing t b = omega (arith, size_pos t, begins_within [] t b)

  -- what reads as a term begins with it
  reads_begins : (bs : List ℕ) (t : Term) → Reads sig n bs t → Begins sig n bs t
  reads_begins bs t r = record { sorted = r.sorted; rest = []; form = append-nil (prefix t) ∙ r.form }

  pub first_within : (bs : List ℕ) (m : ℕ) → FirstTerm sig n bs (Some m) → m ≤ length bs
  first_within bs m f = omega (arith, begins_within bs f.0 f.1, f.2)

  -- ── one term ──

  term_from_first : (bs : List ℕ) (m : ℕ) → FirstTerm sig n bs (Some m) → m ≡ length bs → IsTerm sig n bs
  term_from_first bs m f e =
      let t = f.0 in
      let b = f.1 in
      let nothing : b.rest ≡ [] = nil_from_length b.rest (omega (arith, prefix_length t, length-append (prefix t) b.rest, ap length b.form, f.2)) in
      (t, record { sorted = b.sorted; form = sym (append-nil (prefix t)) ∙ ap (λ w. prefix t ++ w) (sym nothing) ∙ b.form })

  pub first_from_term : (bs : List ℕ) (m : ℕ) → FirstTerm sig n bs (Some m) → IsTerm sig n bs → m ≡ length bs
  first_from_term bs m f p =
      let e = begins_unique bs f.0 p.0 f.1 (reads_begins bs p.0 p.1) in
      omega (arith, f.2, ap size e, prefix_length p.0, ap length p.1.form)

  pub no_term_from_first : (bs : List ℕ) → FirstTerm sig n bs None → IsTerm sig n bs → ⊥
  no_term_from_first bs f p = f p.0 (reads_begins bs p.0 p.1)

  -- the first term is all of the bytes
  pub first_is_all : (bs : List ℕ) (o : Option ℕ) (r : Bool) → FirstTerm sig n bs o → r ≡ option_eq eqb o (Some (length bs)) → Decides r (IsTerm sig n bs)
  first_is_all bs None r f e = ((λ t. absurd (true≢false (sym t ∙ e))), (λ p. absurd (no_term_from_first bs f p)))
  first_is_all bs (Some m) r f e =
      ((λ t. term_from_first bs m f (eqb-true m (length bs) (sym e ∙ t))), (λ p. e ∙ eq-eqb m (length bs) (first_from_term bs m f p)))

  -- ── the part at a place ──

  pub sorted_part : {k : Kind} (C : Context k) (s : Term) → WellSorted sig n (plug C s) → WellSorted sig n s
  sorted_part hole s w = w
  sorted_part (under f C) s w = sorted_part C s w.2
  sorted_part (head C ts) s w = sorted_part C s w.0
  sorted_part (tail t C) s w = sorted_part C s w.1

  -- the part of a term at a place begins there
  pub part_begins : (bs : List ℕ) (t : Term) (p : ℕ) → Reads sig n bs t → p < length bs → Begins sig n (drop p bs) (part t p)
  part_begins bs t p r h =
      let a = part_at t p (omega (arith, prefix_length t, ap length r.form)) in
      let C = a.context in
      let s = a.term in
      let is : s ≡ part t p = sym (parts_agree_with_contexts t p a).0 in
      let form : prefix s ++ bytes_behind C ≡ drop p bs = sym (at_place C s) ∙ ap₂ (λ q w. drop q w) a.at (ap prefix (sym a.splits) ∙ r.form) in
      subst (Begins sig n (drop p bs)) is
      (record { sorted = sorted_part C s (subst (WellSorted sig n) a.splits r.sorted); rest = bytes_behind C; form = form })

  module _ (bs : List ℕ) (p : ℕ) where
    pub none_behind : length bs ≤ p → TermAt sig n bs p None × PartOfTerm sig n bs p None
    none_behind h = (
      (λ s b. begins_nothing s (subst (λ w. Begins sig n w s) (drop_all p bs h) b)),
      (λ t r l. absurd (omega arith)),
    )

    pub none_there : FirstTerm sig n (drop p bs) None → TermAt sig n bs p None × PartOfTerm sig n bs p None
    none_there nothing = (nothing, λ t r l. absurd (nothing (part t p) (part_begins bs t p r l)))

    pub found_there : (m : ℕ) → FirstTerm sig n (drop p bs) (Some m) → TermAt sig n bs p (Some (take m (drop p bs))) × PartOfTerm sig n bs p (Some (take m (drop p bs)))
    found_there m first =
        let s = first.0 in
        let b = first.1 in
        let is : prefix s ≡ take m (drop p bs) = sym (take_at (prefix s) b.rest (size s) (prefix_length s)) ∙ ap₂ take first.2 b.form in (
          (s, b, is),
          λ t r l. ap {B = Option (List ℕ)} Some (sym is ∙ ap prefix (begins_unique (drop p bs) s (part t p) b (part_begins bs t p r l))),
        )

-- ── sides of rules ──

module _ (sig : Arities) where
  -- a term has a byte at least
  pub side_of : (bs : List ℕ) (t : Term) → Reads sig 4 bs t → length bs ≤ 32 → IsSide sig bs
  side_of bs t r h = record { some = omega (arith, size_pos t, prefix_length t, ap length r.form); most = h; term = (t, r) }

  pub side_is : (bs : List ℕ) (r : Bool) → length bs ≤ 32 → Decides r (IsTerm sig 4 bs) → Decides r (IsSide sig bs)
  side_is bs r h d = ((λ t. let p = d.0 t in side_of bs p.0 p.1 h), (λ s. d.1 s.term))
