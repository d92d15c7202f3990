-- Told steps: one step, lists of them one step longer, and their ends.
use Rattle.std.proofs.Common.{◌≡◌, ℕ, zero, suc, ◌+◌, ◌*◌, ◌<◌, ◌≤◌, List, [], ◌∷◌, ◌++◌, length, get_or, take, drop, Ok, Err, Result, MatchResult, IsErrAnd, sym, refl, ap, ◌∙◌, subst, subst₂, inl, append_assoc, length-append, arith}
use Rattle.std.specs.List.{concat}
use Rattle.std.specs.Simd.{first_chunks}
use Rattle.std.proofs.lemmas.List.{take_at, take_more, get_or-append-add, get_or_append_left}
use Rattle.std.proofs.lemmas.List.Folds.{concat-append}
use Rattle.terms.specs.Term.{Term, Rule, size}
use Rattle.terms.specs.Prefix.{Arities, prefix, Reads}
use Rattle.terms.proofs.Reading.{prefix_length, same_bytes_same_term}
use Rattle.rewriting.specs.Rewrite.{StepAt}
use Rattle.unification.specs.declared.written.Codes.{Codes}
use Rattle.unification.specs.Written.{bytes_of}
use Rattle.stepping.specs.declared.outcome.RewriteFault.{RewriteFault}
use Rattle.stepping.specs.declared.outcome.RewriteFault.TheVariants as fault
use Rattle.stepping.specs.Stepping.{MatchedBy, Stepped, RewriteAnswer}
use Rattle.judge.specs.Overlaps.{most_symbols, Leads}
use Rattle.judge.specs.declared.fault.Side.{Side}
use Rattle.judge.specs.declared.fault.Side.TheVariants.{Outer, Inner}
use Rattle.judge.specs.declared.fault.ShowFault.{ShowFault}
use Rattle.judge.specs.declared.fault.ShowFault.TheVariants as show
use Rattle.judge.specs.Calls.{MatchesAt, NoMatchAt, TooLongAt, SideFails, EndsApart, ListsFail}
use Rattle.judge.specs.Showing.{ToldStep, EndsAt, StepFails, OneEnd, told_fault_of}

-- ── one step ──

module _ (sig : Arities) (rs : List Rule) (bytes : List ℕ) (k p : ℕ) (room after : List ℕ) (limit : length room ≡ 255) where
  abbrev Answer : Result ℕ RewriteFault → Type 0
  Answer r = RewriteAnswer sig 8 rs bytes k p room after r

  module _ (t : Term) (reads : Reads sig 8 bytes t) where
    -- the bytes read as one term only
    same : (u : Term) → Reads sig 8 bytes u → u ≡ t
    same u other = same_bytes_same_term sig 8 8 bytes u t other reads

    taken : (u v : Term) → Stepped sig 8 rs bytes k p u v → StepAt rs k p t v
    taken u v s = subst (λ w. StepAt rs k p w v) (same u s.reads) s.step.step

    -- a step that is done, with what stands behind the page's front
    pub step_is_done : (n : ℕ) (page_rest : List ℕ) (w : Codes 255) → Answer (Ok n) → bytes_of w ≡ take n (after ++ page_rest) → ToldStep sig rs k p t (Ok w)
    step_is_done n page_rest w a e =
        let u = a.1 in
        let long : length (prefix u) ≡ n = prefix_length u ∙ sym a.3 in
        let front : take n (after ++ page_rest) ≡ prefix u = ap (λ w. take n (w ++ page_rest)) a.5 ∙ ap (take n) (append_assoc (prefix u) (drop n room) page_rest) ∙ take_at (prefix u) (drop n room ++ page_rest) n long in
        (u, taken a.0 u a.2, omega (arith, a.3, a.4), record { sorted = a.2.sorted (inl (omega arith)); form = sym (e ∙ front) })

    -- a step that is not done
    pub step_fails : (e : RewriteFault) → Answer (Err e) → ToldStep sig rs k p t (Err e)
    step_fails fault.NoTerm a = a.0 (t, reads)
    step_fails fault.NoMatch a =
        λ m. a.0.2 (subst (λ w. MatchedBy rs k w p) (sym (same a.0.0 a.0.1)) (record { inside = m.0; matches = m.1 }))
    step_fails fault.NoRoom a = (a.0.1, taken a.0.0 a.0.1 a.0.2, omega (arith, a.0.3))

-- ── lists of steps ──

module _ (rs : List Rule) where
  -- one step more at the end
  pub leads_more : (steps : List ℕ) (k p : ℕ) (t u v : Term) → Leads rs steps t u → StepAt rs k p u v → size v ≤ most_symbols → Leads rs (steps ++ (k ∷ (p ∷ []))) t v
  leads_more [] k p t u v l s fits = (v, subst (λ w. StepAt rs k p w v) (sym l) s, fits, refl)
  leads_more (j ∷ []) k p t u v l s fits = absurd l
  leads_more (j ∷ (q ∷ steps)) k p t u v l s fits = (l.0, l.1, l.2, leads_more steps k p l.0 u v l.3 s fits)

-- each step has two bytes
abbrev pub InTwos : List (List ℕ) → Type 0
InTwos steps = (n : ℕ) → n < length steps → length (get_or steps n []) ≡ 2

pub length-told : (steps : List (List ℕ)) → InTwos steps → length (concat steps) ≡ 2 * length steps
length-told [] two = refl
length-told (s ∷ steps) two =
    omega (arith, length-append s (concat steps), two 0 (omega arith), length-told steps (λ n h. two (suc n) (omega (arith, h))))

-- the bytes before a step, those of the step, and those behind it
told_parts : (steps : List (List ℕ)) (n : ℕ) → n < length steps → concat steps ≡ concat (take n steps) ++ (get_or steps n [] ++ concat (drop (suc n) steps))
told_parts (s ∷ steps) zero h = refl
told_parts (s ∷ steps) (suc n) h =
    ap (λ w. s ++ w) (told_parts steps n (omega (arith, h))) ∙ sym (append_assoc s (concat (take n steps)) (get_or steps n [] ++ concat (drop (suc n) steps)))
told_parts [] n h = absurd (omega (arith, h))

twos_taken : (steps : List (List ℕ)) (n : ℕ) → InTwos steps → n ≤ length steps → length (concat (take n steps)) ≡ 2 * n
twos_taken (s ∷ steps) (suc n) two h =
    omega (arith, length-append s (concat (take n steps)), two 0 (omega arith), twos_taken steps n (λ m l. two (suc m) (omega (arith, l))) (omega (arith, h)))
twos_taken steps zero two h = refl
twos_taken [] (suc n) two h = absurd (omega (arith, h))

-- ── the next step ──

-- whether it is a fault
abbrev Failed : {X E : Type 0} → Result X E → Type 0
Failed (Ok x) = ⊥
Failed (Err e) = Unit {0}

-- a list of two is its two elements
two_long : (xs : List ℕ) → length xs ≡ 2 → xs ≡ get_or xs 0 0 ∷ (get_or xs 1 0 ∷ [])
two_long (x ∷ (y ∷ [])) h = refl
two_long [] h = absurd (omega (arith, h))
two_long (x ∷ []) h = absurd (omega (arith, h))
two_long (x ∷ (y ∷ (z ∷ xs))) h = absurd (omega (arith, h))

module _ (sig : Arities) (rs : List Rule) (steps : List (List ℕ)) (n : ℕ) (two : InTwos steps) (inside : n < length steps) (t : Term) (before : Codes 255) (so_far : EndsAt sig rs (concat (take n steps)) t before) where
  abbrev k : ℕ
  k = get_or (get_or steps n []) 0 0

  abbrev p : ℕ
  p = get_or (get_or steps n []) 1 0

  -- what the step answers of each term that the bytes read as
  abbrev Next : Result (Codes 255) RewriteFault → Type 0
  Next r = (u : Term) → Reads sig 8 (bytes_of before) u → ToldStep sig rs k p u r

  next_is : (r : Result (Codes 255) RewriteFault) → Next r → ToldStep sig rs k p so_far.0 r
  next_is r next = next so_far.0 so_far.2

  long : length (concat (take n steps)) ≡ 2 * n
  long = twos_taken steps n two (omega (arith, inside))

  -- the bytes of one step more
  one_more : concat (take (n + 1) steps) ≡ concat (take n steps) ++ (k ∷ (p ∷ []))
  one_more =
      ap concat (take_more steps n [] inside)
      ∙ concat-append (take n steps) (get_or steps n [] ∷ [])
      ∙ ap (λ w. concat (take n steps) ++ (w ++ [])) (two_long (get_or steps n []) (two n inside))

  bytes_inside : 2 * n + 1 < length (concat steps)
  bytes_inside = omega (arith, length-told steps two, inside)

  bytes_before : take (2 * n) (concat steps) ≡ concat (take n steps)
  bytes_before = ap (take (2 * n)) (told_parts steps n inside) ∙ take_at (concat (take n steps)) (get_or steps n [] ++ concat (drop (suc n) steps)) (2 * n) long

  byte_is : (j : ℕ) → j < 2 → get_or (concat steps) (2 * n + j) 0 ≡ get_or (get_or steps n []) j 0
  byte_is j h =
      ap (λ w. get_or w (2 * n + j) 0) (told_parts steps n inside)
      ∙ ap (λ m. get_or (concat (take n steps) ++ (get_or steps n [] ++ concat (drop (suc n) steps))) (m + j) 0) (sym long)
      ∙ get_or-append-add (concat (take n steps)) (get_or steps n [] ++ concat (drop (suc n) steps)) j 0
      ∙ get_or_append_left (get_or steps n []) (concat (drop (suc n) steps)) 0 j (omega (arith, h, two n inside))

  rule_is : get_or (concat steps) (2 * n) 0 ≡ k
  rule_is = let same : 2 * n ≡ 2 * n + 0 = omega arith in ap (λ m. get_or (concat steps) m 0) same ∙ byte_is 0 (omega arith)

  place_is : get_or (concat steps) (2 * n + 1) 0 ≡ p
  place_is = byte_is 1 (omega arith)

  leads : Leads rs (take (2 * n) (concat steps)) t so_far.0
  leads = subst (λ w. Leads rs w t so_far.0) (sym bytes_before) so_far.1

  next_done : (w : Codes 255) → Next (Ok w) → EndsAt sig rs (concat (take (n + 1) steps)) t w
  next_done w next =
      let s = next_is (Ok w) next in
      (s.0, subst (λ w. Leads rs w t s.0) (sym one_more) (leads_more rs (concat (take n steps)) k p t so_far.0 s.0 so_far.1 s.1 s.2), s.3)

  -- a term stands there, so where it is not rewritten and there is room, the rule does not match
  next_fails : (side : Side) (e : RewriteFault) → Next (Err e) → StepFails rs (concat steps) t side (told_fault_of e side n)
  next_fails side fault.NoTerm next = absurd (next_is (Err fault.NoTerm) next)
  next_fails side fault.NoMatch next =
      (refl, record { told = bytes_inside; reached = so_far.0; leads = leads; fails = subst₂ (λ k p. MatchesAt rs k p so_far.0 → ⊥) (sym rule_is) (sym place_is) (next_is (Err fault.NoMatch) next) })
  next_fails side fault.NoRoom next =
      let s = next_is (Err fault.NoRoom) next in
      (refl, record { told = bytes_inside; reached = so_far.0; leads = leads; result = s.0; step = subst₂ (λ k p. StepAt rs k p so_far.0 s.0) (sym rule_is) (sym place_is) s.1; long = s.2 })

  -- the answer of a step with its fault told by the side and the step's number
  module _ (side : Side) (m : Result (Codes 255) ShowFault) (Q : RewriteFault → ShowFault → Type 0) where
    abbrev Mapped : Result (Codes 255) RewriteFault → Type 0
    Mapped r = MatchResult r (λ w. m ≡ Ok w) (λ e. IsErrAnd m (Q e))

    pub told_done : (r : Result (Codes 255) RewriteFault) (w : Codes 255) → Mapped r → m ≡ Ok w → Next r → EndsAt sig rs (concat (take (n + 1) steps)) t w
    told_done (Ok v) w mapped is next = let same : v ≡ w = cc in subst (λ x. EndsAt sig rs (concat (take (n + 1) steps)) t x) same (next_done v next)
    told_done (Err e) w mapped is next = absurd (subst (λ x. IsErrAnd x (Q e)) is mapped)

    pub told_fails : (r : Result (Codes 255) RewriteFault) (f : ShowFault) → ((e : RewriteFault) (g : ShowFault) → Q e g → g ≡ told_fault_of e side n) → Mapped r → m ≡ Err f → Next r → StepFails rs (concat steps) t side f
    told_fails (Ok v) f told mapped is next = absurd (subst Failed (sym is ∙ mapped) tt)
    told_fails (Err e) f told mapped is next = subst (StepFails rs (concat steps) t side) (sym (told e f (subst (λ x. IsErrAnd x (Q e)) is mapped))) (next_fails side e next)

-- ── telling ──

-- the whole chunks of an even number of bytes are these bytes
pub chunks_tell : (list : List ℕ) (n : ℕ) → 2 * n ≡ length list → concat (first_chunks 2 n list) ≡ list
chunks_tell [] zero h = refl
chunks_tell (x ∷ list) zero h = absurd (omega (arith, h))
chunks_tell [] (suc n) h = absurd (omega (arith, h))
chunks_tell (x ∷ []) (suc n) h = absurd (omega (arith, h))
chunks_tell (x ∷ (y ∷ list)) (suc n) h = ap (λ w. x ∷ (y ∷ w)) (chunks_tell list n (omega (arith, h)))

-- ── both lists ──

module _ (rs : List Rule) (os is : List ℕ) (a b : Term) where
  pub outer_fails : (e : ShowFault) → StepFails rs os a Outer e → ListsFail rs os is a b e
  outer_fails show.ShortPage f = f
  outer_fails show.OtherTicket f = f
  outer_fails show.BadLists f = f
  outer_fails (show.NoMatch side n) f = subst (λ s. SideFails (NoMatchAt rs) rs os is a b s n) (sym f.0) f.1
  outer_fails (show.TooLong side n) f = subst (λ s. SideFails (TooLongAt rs) rs os is a b s n) (sym f.0) f.1
  outer_fails show.EndsDiffer f = absurd f

  pub inner_fails : (end : Term) → Leads rs os a end → (e : ShowFault) → StepFails rs is b Inner e → ListsFail rs os is a b e
  inner_fails end l show.ShortPage f = f
  inner_fails end l show.OtherTicket f = f
  inner_fails end l show.BadLists f = f
  inner_fails end l (show.NoMatch side n) f = subst (λ s. SideFails (NoMatchAt rs) rs os is a b s n) (sym f.0) ((end, l), f.1)
  inner_fails end l (show.TooLong side n) f = subst (λ s. SideFails (TooLongAt rs) rs os is a b s n) (sym f.0) ((end, l), f.1)
  inner_fails end l show.EndsDiffer f = absurd f

  module _ (sig : Arities) (first second : Codes 255) (outer_end : EndsAt sig rs os a first) (inner_end : EndsAt sig rs is b second) where
    -- equal bytes are one end, and other bytes two
    pub ends_meet : bytes_of first ≡ bytes_of second → OneEnd rs os is a b
    ends_meet e =
        let same = same_bytes_same_term sig 8 8 (bytes_of second) outer_end.0 inner_end.0 (record { sorted = outer_end.2.sorted; form = outer_end.2.form ∙ e }) inner_end.2 in
        (outer_end.0, outer_end.1, subst (Leads rs is b) (sym same) inner_end.1)

    pub ends_apart : (bytes_of first ≡ bytes_of second → ⊥) → EndsApart rs os is a b
    ends_apart d = record {
      outer_end = outer_end.0;
      inner_end = inner_end.0;
      outer_leads = outer_end.1;
      inner_leads = inner_end.1;
      apart = λ e. d (sym outer_end.2.form ∙ ap prefix e ∙ inner_end.2.form);
    }
