-- The critical pair lemma: if every critical pair is joinable, rewriting is locally confluent.
use Rattle.std.proofs.Common.{◌≡◌, ℕ, ◌<◌, ◌⊎◌, List, length, sym, refl, ap, ◌∙◌, subst, ap₂, subst₂, inl, inr, arith}
use native.Mathlib.Decide.{ℕ_discrete, dec_lt}
use Rattle.rewriting.specs.Relation.{Star, done, Joinable, LocallyConfluent}
use Rattle.terms.specs.Term.{Kind, one, many, Tree, var, node, nil, cons, Term, Terms, Rule, rule_at, Subst, sub, Occurs, IsNode}
use Rattle.terms.specs.Place.{Context, hole, under, head, tail, plug, sub_context}
use Rattle.rewriting.specs.Rewrite.{Step, Proper}
use Rattle.rewriting.proofs.Abstract.{append, single, star_eq, swap}
use Rattle.rewriting.proofs.Substitution.{sub_cong, sub_agree, sub_factor, sub_plug, context_factor, update, update_same, update_case}
use Rattle.rewriting.proofs.Closure.{star_map, join_map, step_node, step_head, step_tail, step_plug, join_sub, star_cons, sub_star, step_root}

-- 0 and 1 differ
clash : ◌≡◌ {A = ℕ} 0 1 → ⊥
clash z = omega arith

-- Rule j overlaps rule i at a place of i's left side: the left side is C with q in its hole, and q is no variable.
-- Of one rule with itself the root is no overlap, and of two rules at the root it is enough to look at i < j.
pub record Overlapping (rs : List Rule) (i j : ℕ) (C : Context one) (q : Term) : Type 0 where
  pub first_rule : i < length rs
  pub second_rule : j < length rs
  pub place : (rule_at rs i).left ≡ plug C q
  pub no_variable : IsNode q
  pub proper : (C ≡ hole) → i < j

-- What the lemma needs of an overlap. The variables of the two rules are kept apart by two substitutions, μ for i's and ν for j's:
-- q under μ is j's left side under ν, and any σ and τ that do so are instances of μ and ν, on the variables of `within` (which q is a part of) and of t.
pub record MostGeneral (within q t : Term) (μ ν : Subst) : Type 0 where
  pub unifies : sub μ q ≡ sub ν t
  pub general : (σ τ : Subst) → sub σ q ≡ sub τ t → (δ : Subst) × ((x : ℕ) → Occurs x within → σ x ≡ sub δ (μ x)) × ((x : ℕ) → Occurs x t → τ x ≡ sub δ (ν x))

-- wherever some instances of q and of j's left side are equal, there is a most general such pair,
-- at which the two ways to rewrite i's left side can be joined
abbrev pub CriticalPairsJoinable : List Rule → Type 0
CriticalPairsJoinable rs =
    (i j : ℕ) (C : Context one) (q : Term) → Overlapping rs i j C q →
    (σ τ : Subst) → sub σ q ≡ sub τ (rule_at rs j).left →
    (μ ν : Subst) × MostGeneral (rule_at rs i).left q (rule_at rs j).left μ ν
    × Joinable (Step rs) (sub μ (rule_at rs i).right) (plug (sub_context μ C) (sub ν (rule_at rs j).right))

-- The place D of the sub-term s in an instance of the pattern p is at or below a variable of p: after the step from s to s'
-- inside of it, the other instances of that variable can follow, which gives an instance of p again, by σ'.
pub record AtVariable (rs : List Rule) {k : Kind} (p : Tree k) (σ : Subst) (D : Context k) (s' : Term) : Type 0 where
  pub later : Subst
  pub follows : (x : ℕ) → Star (Step rs) (σ x) (later x)
  pub closes : Star (Step rs) (plug D s') (sub later p)

-- Or D is the instance of a place C of p where no variable stands, but the sub-term q of p.
pub record AtSymbol {k : Kind} (p : Tree k) (σ : Subst) (D : Context k) (s : Term) : Type 0 where
  pub place : Context k
  pub part : Term
  pub splits : p ≡ plug place part
  pub no_variable : IsNode part
  pub is_place : D ≡ sub_context σ place
  pub is_part : sub σ part ≡ s

module _ {rs : List Rule} where
  -- where does the sub-term s of an instance of the pattern p stand?
  pub locate : {k : Kind} (p : Tree k) (σ : Subst) (D : Context k) (s s' : Term) → Step rs s s' → sub σ p ≡ plug D s → AtVariable rs p σ D s' ⊎ AtSymbol p σ D s
  locate (var x) σ D s s' r e =
      inl record {
        later = update σ x (plug D s');
        follows =
            update_case σ x (plug D s') (λ y t. Star (Step rs) (σ y) t)
            (subst (λ t. Star (Step rs) t (plug D s')) (sym e) (single (step_plug D r)))
            (λ y n. done);
        closes = star_eq (sym (update_same σ x (plug D s')));
      }
  locate (node f ps) σ hole s s' r e =
      inr record { place = hole; part = node f ps; splits = refl; no_variable = tt; is_place = refl; is_part = e }
  locate (node f ps) σ (under g D) s s' r e = go (locate ps σ D s s' r (cc))
    where
      same_symbol : f ≡ g
      same_symbol = cc

      go : AtVariable rs ps σ D s' ⊎ AtSymbol ps σ D s → AtVariable rs (node f ps) σ (under g D) s' ⊎ AtSymbol (node f ps) σ (under g D) s
      go (inl v) =
          inl record {
            later = v.later;
            follows = v.follows;
            closes = subst (λ h. Star (Step rs) (node h (plug D s')) (node f (sub v.later ps))) same_symbol (star_map (node f) (λ x y q. step_node q) v.closes);
          }
      go (inr a) =
          inr record {
            place = under f a.place;
            part = a.part;
            splits = ap (node f) a.splits;
            no_variable = a.no_variable;
            is_place = ap₂ under (sym same_symbol) a.is_place;
            is_part = a.is_part;
          }
  locate nil σ (head D us) s s' r e = absurd (clash (cc))
  locate nil σ (tail u D) s s' r e = absurd (clash (cc))
  locate (cons p ps) σ (head D us) s s' r e = go (locate p σ D s s' r (cc))
    where
      rest : sub σ ps ≡ us
      rest = cc

      go : AtVariable rs p σ D s' ⊎ AtSymbol p σ D s → AtVariable rs (cons p ps) σ (head D us) s' ⊎ AtSymbol (cons p ps) σ (head D us) s
      go (inl v) =
          inl record {
            later = v.later;
            follows = v.follows;
            closes = star_cons v.closes (subst (λ ts. Star (Step rs) ts (sub v.later ps)) rest (sub_star ps v.follows));
          }
      go (inr a) =
          inr record {
            place = head a.place ps;
            part = a.part;
            splits = ap (λ t. cons t ps) a.splits;
            no_variable = a.no_variable;
            is_place = ap₂ head a.is_place (sym rest);
            is_part = a.is_part;
          }
  locate (cons p ps) σ (tail u D) s s' r e = go (locate ps σ D s s' r (cc))
    where
      first : sub σ p ≡ u
      first = cc

      go : AtVariable rs ps σ D s' ⊎ AtSymbol ps σ D s → AtVariable rs (cons p ps) σ (tail u D) s' ⊎ AtSymbol (cons p ps) σ (tail u D) s
      go (inl v) =
          inl record {
            later = v.later;
            follows = v.follows;
            closes = star_cons (subst (λ t. Star (Step rs) t (sub v.later p)) first (sub_star p v.follows)) v.closes;
          }
      go (inr a) =
          inr record {
            place = tail p a.place;
            part = a.part;
            splits = ap (cons p) a.splits;
            no_variable = a.no_variable;
            is_place = ap₂ tail (sym first) a.is_place;
            is_part = a.is_part;
          }

module _ {rs : List Rule} (proper : Proper rs) (critical : CriticalPairsJoinable rs) where
  -- an overlap by σ and τ is an instance of the critical pair, so it is joined as that is
  overlap_joins : (i j : ℕ) (C : Context one) (q : Term) → Overlapping rs i j C q → (σ τ : Subst) → sub σ q ≡ sub τ (rule_at rs j).left → Joinable (Step rs) (sub σ (rule_at rs i).right) (plug (sub_context σ C) (sub τ (rule_at rs j).right))
  overlap_joins i j C q o σ τ e =
      let found = critical i j C q o σ τ e in
      let μ = found.0 in
      let ν = found.1 in
      let g = found.2.general σ τ e in
      let δ = g.0 in
      subst₂ (Joinable (Step rs))
      (sym (sub_factor (rule_at rs i).right σ δ μ (λ x h. g.1 x ((proper i o.first_rule).1 x h))))
      (sub_plug δ (sub_context μ C) (sub ν (rule_at rs j).right)
      ∙ ap₂ plug
      (sym (context_factor C q σ δ μ (λ x h. g.1 x (subst (λ t. Occurs x t) (sym o.place) h))))
      (sym (sub_factor (rule_at rs j).right τ δ ν (λ x h. g.2 x ((proper j o.second_rule).1 x h)))))
      (join_sub δ found.3)

  -- two rules at the root of one term
  both_at_root : (i j : ℕ) → i < length rs → j < length rs → (σ τ : Subst) → sub σ (rule_at rs i).left ≡ sub τ (rule_at rs j).left → Joinable (Step rs) (sub σ (rule_at rs i).right) (sub τ (rule_at rs j).right)
  both_at_root i j hi hj σ τ e = go (ℕ_discrete i j) (dec_lt i j)
    where
      go : Dec (i ≡ j) → Dec (i < j) → Joinable (Step rs) (sub σ (rule_at rs i).right) (sub τ (rule_at rs j).right)
      go (yes same) d =
          let e' : sub σ (rule_at rs i).left ≡ sub τ (rule_at rs i).left = subst (λ n. sub σ (rule_at rs i).left ≡ sub τ (rule_at rs n).left) (sym same) e in
          let agree = sub_agree (rule_at rs i).left σ τ e' in
          let r = sub_cong (rule_at rs i).right σ τ (λ x h. agree x ((proper i hi).1 x h)) in
          (sub τ (rule_at rs j).right, star_eq (r ∙ ap (λ n. sub τ (rule_at rs n).right) same), done)
      go (no n) (yes l) =
          overlap_joins i j hole (rule_at rs i).left
          record { first_rule = hi; second_rule = hj; place = refl; no_variable = (proper i hi).0; proper = λ h. l } σ τ e
      go (no n) (no m) =
          swap (overlap_joins j i hole (rule_at rs j).left
          record { first_rule = hj; second_rule = hi; place = refl; no_variable = (proper j hj).0; proper = λ h. omega arith } τ σ (sym e))

  -- a rule at the root, and a step anywhere
  root_peak : (i j : ℕ) → i < length rs → j < length rs → (σ τ : Subst) (D : Context one) → sub σ (rule_at rs i).left ≡ plug D (sub τ (rule_at rs j).left) → Joinable (Step rs) (sub σ (rule_at rs i).right) (plug D (sub τ (rule_at rs j).right))
  root_peak i j hi hj σ τ D e =
      go (locate (rule_at rs i).left σ D (sub τ (rule_at rs j).left) (sub τ (rule_at rs j).right) (step_root j hj τ) e)
    where
      L : Term
      L = (rule_at rs i).left

      at_place : (C : Context one) (q : Term) → L ≡ plug C q → IsNode q → sub σ q ≡ sub τ (rule_at rs j).left → Joinable (Step rs) (sub σ (rule_at rs i).right) (plug (sub_context σ C) (sub τ (rule_at rs j).right))
      at_place hole q p n h = both_at_root i j hi hj σ τ (ap (sub σ) p ∙ h)
      at_place (under f C) q p n h =
          overlap_joins i j (under f C) q
          record { first_rule = hi; second_rule = hj; place = p; no_variable = n; proper = λ z. absurd (clash (cc)) } σ τ h

      go : AtVariable rs L σ D (sub τ (rule_at rs j).right) ⊎ AtSymbol L σ D (sub τ (rule_at rs j).left) → Joinable (Step rs) (sub σ (rule_at rs i).right) (plug D (sub τ (rule_at rs j).right))
      go (inl v) =
          (sub v.later (rule_at rs i).right, sub_star (rule_at rs i).right v.follows, append v.closes (single (step_root i hi v.later)))
      go (inr a) =
          subst (λ C. Joinable (Step rs) (sub σ (rule_at rs i).right) (plug C (sub τ (rule_at rs j).right))) (sym a.is_place)
          (at_place a.place a.part a.splits a.no_variable a.is_part)

  -- steps in two arguments side by side: each is made after the other
  beside : (C : Context one) (D : Context many) (i j : ℕ) → i < length rs → j < length rs → (σ τ : Subst) (u : Term) (ts : Terms) → plug C (sub σ (rule_at rs i).left) ≡ u → plug D (sub τ (rule_at rs j).left) ≡ ts → Joinable (Step rs) (cons (plug C (sub σ (rule_at rs i).right)) ts) (cons u (plug D (sub τ (rule_at rs j).right)))
  beside C D i j hi hj σ τ u ts p q = (
    cons (plug C (sub σ (rule_at rs i).right)) (plug D (sub τ (rule_at rs j).right)),
    single (step_tail (subst (λ x. Step rs x (plug D (sub τ (rule_at rs j).right))) q (step_plug D (step_root j hj τ)))),
    single (step_head (subst (λ x. Step rs x (plug C (sub σ (rule_at rs i).right))) p (step_plug C (step_root i hi σ)))),
  )

  -- Two steps at any two places: one above the other, or side by side.
  peak : {k : Kind} (C D : Context k) (i j : ℕ) → i < length rs → j < length rs → (σ τ : Subst) → plug C (sub σ (rule_at rs i).left) ≡ plug D (sub τ (rule_at rs j).left) → Joinable (Step rs) (plug C (sub σ (rule_at rs i).right)) (plug D (sub τ (rule_at rs j).right))
  peak hole D i j hi hj σ τ e = root_peak i j hi hj σ τ D e
  peak (under f C) hole i j hi hj σ τ e = swap (root_peak j i hj hi τ σ (under f C) (sym e))
  peak (under f C) (under g D) i j hi hj σ τ e =
      let same_symbol : f ≡ g = cc in
      subst (λ h. Joinable (Step rs) (node f (plug C (sub σ (rule_at rs i).right))) (node h (plug D (sub τ (rule_at rs j).right)))) same_symbol
      (join_map (node f) (λ x y r. step_node r) (peak C D i j hi hj σ τ (cc)))
  peak (head C ts) (head D us) i j hi hj σ τ e =
      let same_rest : ts ≡ us = cc in
      subst (λ h. Joinable (Step rs) (cons (plug C (sub σ (rule_at rs i).right)) ts) (cons (plug D (sub τ (rule_at rs j).right)) h)) same_rest
      (join_map (λ x. cons x ts) (λ x y r. step_head r) (peak C D i j hi hj σ τ (cc)))
  peak (tail t C) (tail u D) i j hi hj σ τ e =
      let same_first : t ≡ u = cc in
      subst (λ h. Joinable (Step rs) (cons t (plug C (sub σ (rule_at rs i).right))) (cons h (plug D (sub τ (rule_at rs j).right)))) same_first
      (join_map (cons t) (λ x y r. step_tail r) (peak C D i j hi hj σ τ (cc)))
  peak (head C ts) (tail u D) i j hi hj σ τ e = beside C D i j hi hj σ τ u ts (cc) (cc)
  peak (tail t C) (head D us) i j hi hj σ τ e = swap (beside D C j i hj hi τ σ t us (cc) (cc))

-- rewriting is locally confluent, if every critical pair is joinable
pub critical_pair_lemma : (rs : List Rule) (k : Kind) → Proper rs → CriticalPairsJoinable rs → LocallyConfluent (Step rs {k = k})
critical_pair_lemma rs k proper critical x y z s u =
    subst₂ (Joinable (Step rs)) (sym s.becomes) (sym u.becomes)
    (peak proper critical s.context u.context s.number u.number s.is_rule u.is_rule s.instance u.instance (sym s.before ∙ u.before))
