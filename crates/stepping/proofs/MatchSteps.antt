-- The steps of matching. A loop over the bytes of the left side keeps two lists of terms of the same length: the patterns `ls` that are still to be
-- matched, and the terms `ts` that they are to match. Matching these, under the bindings so far, is the same as matching all.
use Rattle.std.proofs.Common.{◌≡◌, ℕ, ◌+◌, ◌-◌, ◌<◌, ◌≤◌, ◌⊎◌, List, ◌++◌, length, get_or, take, drop, set, Some, None, sym, refl, ap, ◌∙◌, subst, ap₂, inl, inr, append_assoc, append-nil, arith, length-append, length-drop}
use Rattle.std.proofs.lemmas.List.{drop_at, drop-drop}
use Rattle.std.proofs.lemmas.Option.{none-some}
use Rattle.terms.specs.Term.{var, node, nil, cons, Term, Terms, how_many, size, Subst, sub, Occurs}
use Rattle.terms.specs.Prefix.{Arities, prefix, WellSorted, Reads, FirstTerm}
use Rattle.terms.proofs.Reading.{join, prefix_length, size_pos, same_bytes_same_term}
use Rattle.terms.proofs.Scans.{prefix_join, some_same}
use Rattle.rewriting.proofs.Substitution.{update, update_case}
use Rattle.rewriting.proofs.Sorted.{many_sub}
use Rattle.stepping.specs.declared.matching.Substitution.{Substitution}
use Rattle.stepping.specs.Bindings.{Part, Bindings, bound_to, Binds, Agrees, Matched}
use Rattle.stepping.proofs.Bytes.{first_byte, first_term_is, first_term_some}
use Rattle.stepping.proofs.Bound.{variable_bound, bound_now, bound_other, bound_before}

-- ── lists of terms ──

sub_join : (σ : Subst) (ts us : Terms) → sub σ (join ts us) ≡ join (sub σ ts) (sub σ us)
sub_join σ nil us = refl
sub_join σ (cons t ts) us = ap (cons (sub σ t)) (sub_join σ ts us)

many_join : (ts us : Terms) → how_many (join ts us) ≡ how_many ts + how_many us
many_join nil us = omega arith
many_join (cons t ts) us = let h = many_join ts us in omega arith

join_sorted : (sig : Arities) (n : ℕ) (ts us : Terms) → WellSorted sig n ts → WellSorted sig n us → WellSorted sig n (join ts us)
join_sorted sig n nil us a b = b
join_sorted sig n (cons t ts) us a b = (a.0, join_sorted sig n ts us a.1 b)

join_same : (ts us vs ws : Terms) → how_many ts ≡ how_many us → join ts vs ≡ join us ws → (ts ≡ us) × (vs ≡ ws)
join_same nil nil vs ws k e = (refl, e)
join_same nil (cons u us) vs ws k e = absurd (omega arith)
join_same (cons t ts) nil vs ws k e = absurd (omega arith)
join_same (cons t ts) (cons u us) vs ws k e =
    let h : t ≡ u = cc in
    let r : join ts vs ≡ join us ws = cc in
    let p = join_same ts us vs ws (omega arith) r in
    (ap₂ cons h p.0, p.1)

occurs_join : (x : ℕ) (ts us : Terms) → Occurs x (join ts us) → Occurs x ts ⊎ Occurs x us
occurs_join x nil us o = inr o
occurs_join x (cons t ts) us (inl o) = inl (inl o)
occurs_join x (cons t ts) us (inr o) = elim (occurs_join x ts us o) [ inl p ↦ inl (inr p) | inr p ↦ inr p ]

head_is : {u v : Term} {us vs : Terms} → cons u us ≡ cons v vs → u ≡ v
head_is e = cc

tail_is : {u v : Term} {us vs : Terms} → cons u us ≡ cons v vs → us ≡ vs
tail_is e = cc

code_is : {f g : ℕ} {us vs : Terms} → node f us ≡ node g vs → f ≡ g
code_is e = cc

arguments_are : {f g : ℕ} {us vs : Terms} → node f us ≡ node g vs → us ≡ vs
arguments_are e = cc

node_not_var : {f x : ℕ} {us : Terms} → node f us ≡ var x → ⊥
node_not_var e = let z : ◌≡◌ {A = ℕ} 0 1 = cc in omega arith

-- the bytes of the first term, and of the others with what follows them
first_and_others : (u : Term) (ts : Terms) (rest bs : List ℕ) → prefix (cons u ts) ++ rest ≡ bs → prefix u ++ (prefix ts ++ rest) ≡ bs
first_and_others u ts rest bs e = sym (append_assoc (prefix u) (prefix ts) rest) ∙ e

module _ (sig : Arities) (vars : ℕ) (left bytes : List ℕ) (l t : Term) (rest : List ℕ) where
  pub record Going (i j : ℕ) (bs : Bindings) (ls ts : Terms) : Type 0 where
    pub same : how_many ls ≡ how_many ts
    pub ls_sorted : WellSorted sig 4 ls
    pub ts_sorted : WellSorted sig vars ts
    pub ls_bytes : prefix ls ≡ drop i left
    pub ts_bytes : prefix ts ++ rest ≡ drop j bytes
    pub σ : Subst
    pub agrees : Agrees sig vars bs σ
    pub stays : (x : ℕ) → bound_to bs x ≡ None → σ x ≡ var x
    pub sound : (τ : Subst) → Agrees sig vars bs τ → sub τ ls ≡ ts → sub τ l ≡ t
    pub complete : (τ : Subst) → sub τ l ≡ t → Agrees sig vars bs τ × (sub τ ls ≡ ts)
    pub listed : (x : ℕ) → Occurs x ls → Occurs x l
    pub bound : (x : ℕ) (s : Part) → bound_to bs x ≡ Some s → Occurs x l

  -- the state of the loop, with the lists that it stands for
  abbrev pub State : ℕ → ℕ → Bindings → Type 0
  State i j bs = (ls : Terms) × (ts : Terms) × Going i j bs ls ts

  -- the start: all is to be matched, and nothing is bound
  pub start : (bs : Bindings) → ((x : ℕ) → bound_to bs x ≡ None) → Reads sig 4 left l → WellSorted sig vars t → prefix t ++ rest ≡ bytes → State 0 0 bs
  start bs free p w e =
      let none : (τ : Subst) → Agrees sig vars bs τ = λ τ x s d. absurd (none-some s (sym (free x) ∙ d)) in (
        cons l nil,
        cons t nil,
        record {
          same = refl;
          ls_sorted = (p.sorted, tt);
          ts_sorted = (w, tt);
          ls_bytes = append-nil (prefix l) ∙ p.form;
          ts_bytes = ap (λ v. v ++ rest) (append-nil (prefix t)) ∙ e;
          σ = var;
          agrees = none var;
          stays = λ x d. refl;
          sound = λ τ a d. head_is d;
          complete = λ τ d. (none τ, ap (λ u. cons u nil) d);
          listed = λ x o. elim o [ inl h ↦ h | inr h ↦ absurd h ];
          bound = λ x s d. absurd (none-some s (sym (free x) ∙ d));
        },
      )

  -- while a pattern is left, a term is left to be matched
  pub in_bytes : (i j : ℕ) (bs : Bindings) (ls ts : Terms) → Going i j bs ls ts → i < length left → j < length bytes
  in_bytes i j bs nil ts g h = absurd (omega (arith, ap length g.ls_bytes, length-drop i left))
  in_bytes i j bs (cons p ls) nil g h = absurd (omega (arith, g.same))
  in_bytes i j bs (cons p ls) (cons u ts) g h =
      omega (arith, size_pos u, prefix_length u, length-append (prefix u) (prefix ts ++ rest), ap length (first_and_others u ts rest (drop j bytes) g.ts_bytes), length-drop j bytes)

  -- both go on with the same symbol: its arguments are to be matched
  pub symbol_step : (i j : ℕ) (bs : Bindings) (ls ts : Terms) → Going i j bs ls ts → i < length left → get_or left i 0 < 128 → get_or bytes j 0 ≡ get_or left i 0 → State (i + 1) (j + 1) bs
  symbol_step i j bs nil ts g h k e = absurd (omega (arith, ap length g.ls_bytes, length-drop i left))
  symbol_step i j bs (cons (var x) ls) ts g h k e = absurd (omega (arith, g.ls_sorted.0.0, (first_byte x (prefix ls) left i g.ls_bytes).here))
  symbol_step i j bs (cons (node f us) ls) nil g h k e = absurd (omega (arith, g.same))
  symbol_step i j bs (cons (node f us) ls) (cons (var y) ts) g h k e = absurd (omega (arith, g.ts_sorted.0.0, (first_byte y (prefix ts ++ rest) bytes j g.ts_bytes).here))
  symbol_step i j bs (cons (node f us) ls) (cons (node f' vs) ts) g h k e =
      let b = first_byte f (prefix us ++ prefix ls) left i g.ls_bytes in
      let d = first_byte f' ((prefix vs ++ prefix ts) ++ rest) bytes j g.ts_bytes in
      let q : f ≡ f' = sym b.here ∙ sym e ∙ d.here in
      let n : how_many us ≡ how_many vs = some_same (sym g.ls_sorted.0.1 ∙ ap sig q ∙ g.ts_sorted.0.1) in (
        join us ls,
        join vs ts,
        record {
          same = omega (arith, many_join us ls, many_join vs ts, g.same);
          ls_sorted = join_sorted sig 4 us ls g.ls_sorted.0.2 g.ls_sorted.1;
          ts_sorted = join_sorted sig vars vs ts g.ts_sorted.0.2 g.ts_sorted.1;
          ls_bytes = prefix_join us ls ∙ b.rest;
          ts_bytes = ap (λ w. w ++ rest) (prefix_join vs ts) ∙ d.rest;
          σ = g.σ;
          agrees = g.agrees;
          stays = g.stays;
          sound = λ τ a r.
              let p = join_same (sub τ us) vs (sub τ ls) ts (many_sub τ us ∙ n) (sym (sub_join τ us ls) ∙ r) in
              g.sound τ a (ap₂ cons (ap₂ node q p.0) p.1);
          complete = λ τ r. let p = g.complete τ r in (p.0, sub_join τ us ls ∙ ap₂ join (arguments_are (head_is p.1)) (tail_is p.1));
          listed = λ x o. g.listed x (occurs_join x us ls o);
          bound = g.bound;
        },
      )

  -- they go on with different symbols: there is no match
  pub symbol_clash : (i j : ℕ) (bs : Bindings) (ls ts : Terms) → Going i j bs ls ts → i < length left → get_or left i 0 < 128 → (get_or bytes j 0 ≡ get_or left i 0 → ⊥) → (τ : Subst) → sub τ l ≡ t → ⊥
  symbol_clash i j bs nil ts g h k e τ r = omega (arith, ap length g.ls_bytes, length-drop i left)
  symbol_clash i j bs (cons (var x) ls) ts g h k e τ r = omega (arith, g.ls_sorted.0.0, (first_byte x (prefix ls) left i g.ls_bytes).here)
  symbol_clash i j bs (cons (node f us) ls) nil g h k e τ r = omega (arith, g.same)
  symbol_clash i j bs (cons (node f us) ls) (cons (var y) ts) g h k e τ r = node_not_var (head_is (g.complete τ r).1)
  symbol_clash i j bs (cons (node f us) ls) (cons (node f' vs) ts) g h k e τ r =
      let b = first_byte f (prefix us ++ prefix ls) left i g.ls_bytes in
      let d = first_byte f' ((prefix vs ++ prefix ts) ++ rest) bytes j g.ts_bytes in
      e (d.here ∙ sym (code_is (head_is (g.complete τ r).1)) ∙ sym b.here)

  -- the pattern x meets the term u, whose bytes are those of the part
  module _ (i j : ℕ) (bs : Bindings) (x : ℕ) (ls : Terms) (u : Term) (ts : Terms) (g : Going i j bs (cons (var x) ls) (cons u ts)) (part : Part) (e : prefix u ≡ part.now) where
    read : Reads sig vars part.now u
    read = record { sorted = g.ts_sorted.0; form = e }

    is_u : (τ : Subst) → Reads sig vars part.now (τ x) → τ x ≡ u
    is_u τ h = same_bytes_same_term sig vars vars part.now (τ x) u h read

    ls_next : prefix ls ≡ drop (i + 1) left
    ls_next = (first_byte x (prefix ls) left i g.ls_bytes).rest

    ts_next : prefix ts ++ rest ≡ drop (j + size u) bytes
    ts_next =
        sym (drop_at (prefix u) (prefix ts ++ rest) (size u) (prefix_length u))
        ∙ ap (drop (size u)) (first_and_others u ts rest (drop j bytes) g.ts_bytes)
        ∙ drop-drop (size u) j bytes

    -- x was free
    bind_free : bound_to bs x ≡ None → x - 128 < length bs → State (i + 1) (j + size u) (set bs (x - 128) (Some part))
    bind_free free inside =
        let code = g.ls_sorted.0.0 in
        let after = set bs (x - 128) (Some part) in
        let now = bound_now bs x part code inside in
        let other = bound_other bs x part code inside in
        let before = bound_before bs x part code inside in
        let more : (τ : Subst) → Agrees sig vars bs τ → Reads sig vars part.now (τ x) → Agrees sig vars after τ = λ τ a h y s d.
        elim (before y s d) [
          | inl p ↦ subst (λ r. Reads sig vars r.now (τ y)) p.1 (subst (λ z. Reads sig vars part.now (τ z)) (sym p.0) h)
          | inr q ↦ a y s q
        ] in
        let less : (τ : Subst) → Agrees sig vars after τ → Agrees sig vars bs τ = λ τ a y s d.
        a y s (other y (λ p. none-some s (sym free ∙ subst (λ z. bound_to bs z ≡ Some s) p d)) ∙ d) in (
          ls,
          ts,
          record {
            same = omega (arith, g.same);
            ls_sorted = g.ls_sorted.1;
            ts_sorted = g.ts_sorted.1;
            ls_bytes = ls_next;
            ts_bytes = ts_next;
            σ = update g.σ x u;
            agrees = update_case g.σ x u (λ y v. (s : Part) → bound_to after y ≡ Some s → Reads sig vars s.now v)
                (λ s d. elim (before x s d) [ inl p ↦ subst (λ r. Reads sig vars r.now u) p.1 read | inr q ↦ absurd (none-some s (sym free ∙ q)) ])
                (λ y n s d. g.agrees y s (sym (other y n) ∙ d));
            stays = update_case g.σ x u (λ y v. bound_to after y ≡ None → v ≡ var y)
                (λ d. absurd (none-some part (sym d ∙ now)))
                (λ y n d. g.stays y (sym (other y n) ∙ d));
            sound = λ τ a r. g.sound τ (less τ a) (ap₂ cons (is_u τ (a x part now)) r);
            complete = λ τ r.
                let p = g.complete τ r in
                (more τ p.0 (subst (Reads sig vars part.now) (sym (head_is p.1)) read), tail_is p.1);
            listed = λ y o. g.listed y (inr o);
            bound = λ y s d. elim (before y s d) [ inl p ↦ g.listed y (inl p.0) | inr q ↦ g.bound y s q ];
          },
        )

    -- x was bound to the same bytes
    bind_again : (s : Part) → bound_to bs x ≡ Some s → s.now ≡ part.now → State (i + 1) (j + size u) bs
    bind_again s bound q = (
      ls,
      ts,
      record {
        same = omega (arith, g.same);
        ls_sorted = g.ls_sorted.1;
        ts_sorted = g.ts_sorted.1;
        ls_bytes = ls_next;
        ts_bytes = ts_next;
        σ = g.σ;
        agrees = g.agrees;
        stays = g.stays;
        sound = λ τ a r. g.sound τ a (ap₂ cons (is_u τ (subst (λ w. Reads sig vars w (τ x)) q (a x s bound))) r);
        complete = λ τ r. let p = g.complete τ r in (p.0, tail_is p.1);
        listed = λ y o. g.listed y (inr o);
        bound = g.bound;
      },
    )

    -- x was bound to other bytes
    bind_clash : (s : Part) → bound_to bs x ≡ Some s → (s.now ≡ part.now → ⊥) → (τ : Subst) → sub τ l ≡ t → ⊥
    bind_clash s bound q τ r =
        let p = g.complete τ r in
        q (sym (p.0 x s bound).form ∙ ap prefix (head_is p.1) ∙ e)

  -- the pattern is a variable: it is bound to the first term that is left
  module _ (i j n : ℕ) (bs : Bindings) (part : Part) (is : part.now ≡ take n (drop j bytes)) (h : i < length left) (k : 128 ≤ get_or left i 0) (first : FirstTerm sig vars (drop j bytes) (Some n)) where
    -- the part has the bytes of the first term that is left
    first_part : (u : Term) (ts : Terms) → WellSorted sig vars u → prefix (cons u ts) ++ rest ≡ drop j bytes → (n ≡ size u) × (prefix u ≡ part.now)
    first_part u ts w e =
        let f = first_term_is sig vars (drop j bytes) n first u (prefix ts ++ rest) w (first_and_others u ts rest (drop j bytes) e) in
        (f.0, f.1 ∙ sym is)

    variable_is : (x : ℕ) (ls : Terms) → prefix (cons (var x) ls) ≡ drop i left → get_or left i 0 ≡ x
    variable_is x ls e = (first_byte x (prefix ls) left i e).here

    pub variable_step : (after : Substitution) (ls ts : Terms) → Going i j bs ls ts → length bs ≡ 4 → Binds bs (get_or left i 0 - 128) part (Some after) → State (i + 1) (j + n) after.parts
    variable_step after nil ts g z b = absurd (omega (arith, ap length g.ls_bytes, length-drop i left))
    variable_step after (cons (node f us) ls) ts g z b = absurd (omega (arith, g.ls_sorted.0.0, (first_byte f (prefix us ++ prefix ls) left i g.ls_bytes).here))
    variable_step after (cons (var x) ls) nil g z b = absurd (omega (arith, g.same))
    variable_step after (cons (var x) ls) (cons u ts) g z b =
        let w = g.ls_sorted.0 in
        let p = first_part u ts g.ts_sorted.0 g.ts_bytes in
        let is = variable_bound bs x w.0 in
        elim (subst (λ y. Binds bs (y - 128) part (Some after)) (variable_is x ls g.ls_bytes) b) [
          | inl c ↦
              subst (λ m. State (i + 1) (j + m) after.parts) (sym p.0)
              (subst (State (i + 1) (j + size u)) (sym c.1) (bind_free i j bs x ls u ts g part p.1 (is ∙ c.0) (omega (arith, w.1))))
          | inr c ↦
              subst (λ m. State (i + 1) (j + m) after.parts) (sym p.0)
              (subst (State (i + 1) (j + size u)) (sym c.3) (bind_again i j bs x ls u ts g part p.1 c.0 (is ∙ c.1) c.2))
        ]

    pub variable_clash : (ls ts : Terms) → Going i j bs ls ts → Binds bs (get_or left i 0 - 128) part None → (τ : Subst) → sub τ l ≡ t → ⊥
    variable_clash nil ts g b τ r = omega (arith, ap length g.ls_bytes, length-drop i left)
    variable_clash (cons (node f us) ls) ts g b τ r = omega (arith, g.ls_sorted.0.0, (first_byte f (prefix us ++ prefix ls) left i g.ls_bytes).here)
    variable_clash (cons (var x) ls) nil g b τ r = omega (arith, g.same)
    variable_clash (cons (var x) ls) (cons u ts) g b τ r =
        let p = first_part u ts g.ts_sorted.0 g.ts_bytes in
        let c = subst (λ y. Binds bs (y - 128) part None) (variable_is x ls g.ls_bytes) b in
        bind_clash i j bs x ls u ts g part p.1 c.0 (variable_bound bs x g.ls_sorted.0.0 ∙ c.1) c.2 τ r

  -- a pattern's variable is one of the four, and a term begins what is left
  pub variable_small : (i j : ℕ) (bs : Bindings) (ls ts : Terms) → Going i j bs ls ts → i < length left → 128 ≤ get_or left i 0 → get_or left i 0 - 128 < 4
  variable_small i j bs nil ts g h k = absurd (omega (arith, ap length g.ls_bytes, length-drop i left))
  variable_small i j bs (cons (node f us) ls) ts g h k = absurd (omega (arith, g.ls_sorted.0.0, (first_byte f (prefix us ++ prefix ls) left i g.ls_bytes).here))
  variable_small i j bs (cons (var x) ls) ts g h k = omega (arith, g.ls_sorted.0.1, (first_byte x (prefix ls) left i g.ls_bytes).here)

  pub some_term : (i j : ℕ) (bs : Bindings) (ls ts : Terms) → Going i j bs ls ts → i < length left → FirstTerm sig vars (drop j bytes) None → ⊥
  some_term i j bs nil ts g h f = omega (arith, ap length g.ls_bytes, length-drop i left)
  some_term i j bs (cons p ls) nil g h f = omega (arith, g.same)
  some_term i j bs (cons p ls) (cons u ts) g h f = first_term_some sig vars (drop j bytes) f u (prefix ts ++ rest) g.ts_sorted.0 (first_and_others u ts rest (drop j bytes) g.ts_bytes)

  -- nothing is left
  pub finish : (i j : ℕ) (bs : Bindings) (ls ts : Terms) → Going i j bs ls ts → length left ≤ i → j ≤ length bytes → prefix t ++ rest ≡ bytes → Matched sig vars l t bs j
  finish i j bs (cons p ls) ts g h b e = absurd (omega (arith, size_pos p, prefix_length p, length-append (prefix p) (prefix ls), ap length g.ls_bytes, length-drop i left))
  finish i j bs nil (cons u ts) g h b e = absurd (omega (arith, g.same))
  finish i j bs nil nil g h b e = record {
    instance = g.σ;
    is = g.sound g.σ g.agrees refl;
    agrees = g.agrees;
    stays = g.stays;
    occurs = g.bound;
    long = omega (arith, prefix_length t, length-append (prefix t) rest, ap length e, ap length g.ts_bytes, length-drop j bytes);
  }
