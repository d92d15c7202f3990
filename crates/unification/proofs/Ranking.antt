-- The order of the symbols: each turn ranks one, and if some symbol stays without a rank, then there is no solution.
use Rattle.std.proofs.Common.{◌≡◌, ℕ, zero, suc, ◌+◌, ◌<◌, ◌≤◌, cond, eqb, List, length, get_or, set, replicate, sym, refl, ap, ◌∙◌, subst, arith, get_or-set_other, get_or-set_same, eq-eqb, ne_eqb}
use native.Mathlib.Decide.{ℕ_discrete}
use Rattle.terms.specs.Term.{node, Term, Terms, Subst, sub, Occurs, size}
use Rattle.terms.specs.Prefix.{Arities}
use Rattle.rewriting.proofs.Unification.{size_occurs}
use Rattle.unification.specs.Standing.{Stands, IsForest, Ends}
use Rattle.unification.specs.Classes.{Classes, Equates, NoSolution, Ready, Waits, Unranked, Ordered, AllRanked, Stuck, Bindings}
use Rattle.unification.proofs.StandingFacts.{stands_at, is_var, is_node, occurs_at}
use Rattle.unification.proofs.Counting.{total, total_lt, total_most, at_most_one}

-- 1 for an offset that has no rank
abbrev pub lacks : List ℕ → ℕ → ℕ
lacks rank i = cond (eqb (get_or rank i 0) 0) 1 0

-- the ranks given so far are below `next`
pub record Ranks (sig : Arities) (g rep rank : List ℕ) (next : ℕ) : Type 0 where
  pub as_many : length rank ≡ length g
  pub ordered : Ordered sig g rep rank
  pub below : (i : ℕ) → get_or rank i 0 < next
  pub few : total (lacks rank) (length g) + next ≤ length g + 1

no_rank : (n i : ℕ) → ◌≡◌ {A = ℕ} (get_or (replicate n 0) i 0) 0
no_rank zero i = refl
no_rank (suc n) zero = refl
no_rank (suc n) (suc i) = no_rank n i

pub ranks_none : (sig : Arities) (g rep rank : List ℕ) → length rank ≡ length g → ((i : ℕ) → get_or rank i 0 ≡ 0) → Ranks sig g rep rank 1
ranks_none sig g rep rank n zeros =
    record {
      as_many = n;
      ordered = λ i j t pos. absurd (let z = zeros i in omega arith);
      below = λ i. let z = zeros i in omega arith;
      few = let h = total_most (lacks rank) (length g) (λ i. at_most_one (eqb (get_or rank i 0) 0)) in omega arith;
    }

pub ranks_zero : (sig : Arities) (g rep rank : List ℕ) (n : ℕ) → length rank ≡ length g → rank ≡ replicate n 0 → Ranks sig g rep rank 1
ranks_zero sig g rep rank n len e = ranks_none sig g rep rank len (λ i. ap (λ r. get_or r i 0) e ∙ no_rank n i)

pub ranks_fewer : (g rank : List ℕ) (i next : ℕ) → length rank ≡ length g → 0 < next → Unranked g rank i → total (lacks (set rank i next)) (length g) < total (lacks rank) (length g)
ranks_fewer g rank i next n pos u = total_lt (lacks (set rank i next)) (lacks rank) (length g) i (λ k h. le k (ℕ_discrete k i)) u.inside lt
  where
    here : get_or (set rank i next) i 0 ≡ next
    here = get_or-set_same rank i next 0 (let b = u.inside in omega arith)

    new_lacks : lacks (set rank i next) i ≡ 0
    new_lacks = ap (λ b. cond b 1 0) (ne_eqb (get_or (set rank i next) i 0) 0 (λ z. absurd (let h = here in omega arith)))

    lt : lacks (set rank i next) i < lacks rank i
    lt =
        let a = new_lacks in
        let b : lacks rank i ≡ 1 = ap (λ b. cond b 1 0) (eq-eqb (get_or rank i 0) 0 u.none) in
        omega arith

    le : (k : ℕ) → Dec (k ≡ i) → lacks (set rank i next) k ≤ lacks rank k
    le k (yes e) = let a = new_lacks in let b : lacks (set rank i next) k ≡ lacks (set rank i next) i = ap (lacks (set rank i next)) e in omega arith
    le k (no ne) = let a : lacks (set rank i next) k ≡ lacks rank k = ap (λ z. cond (eqb z 0) 1 0) (get_or-set_other rank i k next 0 ne) in omega arith

pub ranks_more : (sig : Arities) (g end rep rank rank' : List ℕ) (i next : ℕ) → Ends sig g end → rank' ≡ set rank i next → length rank' ≡ length g → 0 < next → Unranked g rank i → Ready g rep rank i (get_or end i 0) → Ranks sig g rep rank next → Ranks sig g rep rank' (next + 1)
ranks_more sig g end rep rank rank' i next ends is len pos u ready r =
    subst (λ z. length z ≡ length g → Ranks sig g rep z (next + 1)) (sym is) (λ len.
    record {
      as_many = len;
      ordered = λ k j t p v h a b w x. ordered k (ℕ_discrete k i) j t p v h a b w x;
      below = λ k. below k (ℕ_discrete k i);
      few = let f = r.few in let l = ranks_fewer g rank i next r.as_many pos u in omega arith;
    }) len
  where
    new : List ℕ
    new = set rank i next

    here : get_or (set rank i next) i 0 ≡ next
    here = get_or-set_same rank i next 0 (let b = u.inside in let n = r.as_many in omega arith)

    -- what has a rank keeps it
    kept : (k : ℕ) → 0 < get_or rank k 0 → get_or (set rank i next) k 0 ≡ get_or rank k 0
    kept k p = get_or-set_other rank i k next 0 (λ e. let z = ap (λ m. get_or rank m 0) e in let o = u.none in absurd (omega arith))

    below : (k : ℕ) → Dec (k ≡ i) → get_or (set rank i next) k 0 < next + 1
    below k (yes e) = let a = ap (λ m. get_or (set rank i next) m 0) e in let h = here in omega arith
    below k (no ne) = let a = get_or-set_other rank i k next 0 ne in let b = r.below k in omega arith

    ordered : (k : ℕ) → Dec (k ≡ i) → (j : ℕ) (t : Term) → 0 < get_or (set rank i next) k 0 → get_or g k 0 < 128 → Stands sig g k t → k ≤ j → j < k + size t → 128 ≤ get_or g j 0 → get_or g (get_or rep j 0) 0 < 128 → (0 < get_or (set rank i next) (get_or rep j 0) 0) × (get_or (set rank i next) (get_or rep j 0) 0 < get_or (set rank i next) k 0)
    ordered k (yes e) j t p v h a b w x =
        let stop = ends k t h in
        let stop' = ap (λ m. get_or end m 0) e in
        let q = ready j (omega arith) (omega arith) w x in
        let same = kept (get_or rep j 0) q in
        let low = r.below (get_or rep j 0) in
        let top = ap (λ m. get_or (set rank i next) m 0) e in
        let h₀ = here in
        (omega arith, omega arith)
    ordered k (no ne) j t p v h a b w x =
        let old = get_or-set_other rank i k next 0 ne in
        let q = r.ordered k j t (omega arith) v h a b w x in
        let same = kept (get_or rep j 0) q.0 in
        (omega (arith, q.0), omega (arith, q.1))

-- Where a solution exists, each symbol without a rank would wait for one whose instance is smaller, without end.
no_wait : (sig : Arities) (g end rep rank : List ℕ) → IsForest sig g → Ends sig g end → Classes g rep → Stuck g end rep rank → (σ : Subst) → Equates sig g rep σ → (m i : ℕ) (t : Term) → Stands sig g i t → size (sub σ t) < m → Unranked g rank i → ⊥
no_wait sig g end rep rank forest ends c stuck σ eq zero i t h b u = omega arith
no_wait sig g end rep rank forest ends c stuck σ eq (suc m) i t h b u = go (stuck i u) (is_node sig g i t h u.symbol) (no_wait sig g end rep rank forest ends c stuck σ eq m)
  where
    go : Waits g rep rank i (get_or end i 0) → (ts : Terms) × (t ≡ node (get_or g i 0) ts) → ((i : ℕ) (t : Term) → Stands sig g i t → size (sub σ t) < m → Unranked g rank i → ⊥) → ⊥
    go w n rec =
        let j = w.at_offset in
        let e = ends i t h in
        let inside = h.inside in
        let before = w.not_before in
        let behind = w.not_behind in
        let hj : j < length g = omega arith in
        let o : Occurs (get_or g j 0) t = occurs_at sig g i j t h before (omega arith) w.variable in
        let o' : Occurs (get_or g j 0) n.0 = subst (Occurs (get_or g j 0)) n.1 o in
        let small = size_occurs σ (get_or g j 0) n.0 o' in
        let whole = ap (λ z. size (sub σ z)) n.1 in
        let at_j = stands_at sig g j forest hj in
        let at_r = stands_at sig g (get_or rep j 0) forest (c.inside j hj) in
        let same : σ (get_or g j 0) ≡ sub σ at_r.0 = sym (ap (sub σ) (is_var sig g j at_j.0 at_j.1 w.variable)) ∙ eq j at_j.0 at_r.0 at_j.1 at_r.1 in
        let sizes = ap size same in
        rec (get_or rep j 0) at_r.0 at_r.1 (omega arith) record { inside = c.inside j hj; symbol = w.bound; none = w.unranked }

pub stuck_fails : (sig : Arities) (g end rep rank : List ℕ) (i : ℕ) → IsForest sig g → Ends sig g end → Classes g rep → Stuck g end rep rank → Unranked g rank i → NoSolution sig g rep
stuck_fails sig g end rep rank i forest ends c stuck u σ eq =
    let t = stands_at sig g i forest u.inside in
    no_wait sig g end rep rank forest ends c stuck σ eq (suc (size (sub σ t.0))) i t.0 t.1 (omega arith) u

pub ranks_bindings : (sig : Arities) (g rep rank : List ℕ) (next : ℕ) → length g ≤ 128 → Classes g rep → Ranks sig g rep rank next → AllRanked g rank → Bindings sig g rep rank
ranks_bindings sig g rep rank next few c r all =
    record {
      as_many = r.as_many;
      classes = c;
      ordered = r.ordered;
      ranked = all;
      small = λ i. let b = r.below i in let f = r.few in omega arith;
    }
