-- The step of a rule at a place, and its result.
use Rattle.std.proofs.Common.{◌≡◌, ℕ, ◌+◌, ◌-◌, ◌<◌, ◌≤◌, ◌⊎◌, List, ◌++◌, length, take, drop, Some, None, Option, IsErrAnd, Ok, Err, Result, sym, refl, ap, ◌∙◌, subst, inl, inr, arith, length-drop}
use Rattle.std.specs.Option.{ok_or}
use Rattle.std.proofs.lemmas.List.{take_rest}
use Rattle.std.proofs.lemmas.Option.{none-some}
use Rattle.terms.specs.Term.{var, Term, rule_at, sub, Occurs, size}
use Rattle.terms.specs.Prefix.{prefix, WellSorted, Reads, IsTerm, Begins}
use Rattle.terms.specs.Place.{plug, part, PartAt}
use Rattle.terms.proofs.Reading.{prefix_length}
use Rattle.terms.proofs.Places.{part_at, parts_agree_with_contexts}
use Rattle.terms.proofs.Parts.{part_begins, begins_within}
use Rattle.rewriting.specs.Rewrite.{Matches}
use Rattle.rewriting.proofs.Sorted.{sorted_sub, sorted_var, sorted_plug}
use Rattle.book.specs.Queries.{SidesOf}
use Rattle.std.specs.Borrow.{Bor}
use Rattle.stepping.specs.declared.matching.Match.{Match}
use Rattle.stepping.specs.declared.outcome.RewriteFault.{RewriteFault}
use Rattle.stepping.specs.declared.outcome.RewriteFault.TheVariants as fault
use Rattle.stepping.specs.declared.subject.Subject.{Subject}
use Rattle.stepping.specs.declared.subject.RuleMatch.{RuleMatch}
use Rattle.stepping.specs.Subjects.{signature_on, rules_on, term_on, IsSubject, RuleMatches}
use Rattle.stepping.specs.Bindings.{bound_to, Matched, MatchAnswer}
use Rattle.stepping.specs.Writing.{instance_of, replaced, PutInFront}
use Rattle.stepping.specs.Stepping.{MatchedBy, OneStep, NothingNew, Stepped, RewriteAnswer}
use Rattle.stepping.proofs.Bytes.{reads_length}
use Rattle.stepping.proofs.Instances.{bound_or_free, variable_range, instance_is, replaced_is}

-- what holds of a subject's bytes holds of those that it was made of
pub along : {book : List ℕ} {vars : ℕ} {term : List ℕ} {s : Subject} (P : List ℕ → ℕ → List ℕ → Type 0) → IsSubject book vars term s → P s.book.now.tables.bytes.now s.variables s.term.now → P book vars term
along {book} {vars} {term} {s} P is h =
    subst (P book vars) is.term_is (subst (λ v. P book v s.term.now) is.variables_is (subst (λ b. P b s.variables s.term.now) is.book_is h))

-- a refusal that is handed on
pub refused : {X : Type 0} (P : Result ℕ RewriteFault → Type 0) (o : Option X) (f e : RewriteFault) (r : Result ℕ RewriteFault) → ◌≡◌ {A = Result X RewriteFault} (Err e) (ok_or o f) → o ≡ None → IsErrAnd r (λ y. y ≡ e) → P (Err f) → P r
refused P (Some x) f e r value none by h = absurd (none-some x (sym none))
refused P None f e (Ok n) value none by h = absurd by
refused P None f e (Err g) value none by h = let is : f ≡ g = cc in subst (λ y. P (Err y)) is h

module _ (s : Subject) (k p : ℕ) where
  -- ── the rule does not match ──

  pub behind_the_end : length s.term.now ≤ p → MatchedBy (rules_on s) k (term_on s) p → ⊥
  behind_the_end h m = omega (arith, reads_length (signature_on s) s.variables s.term.now (term_on s) s.reads, m.inside)

  -- at a place with the rule's sides
  module _ (inside : p < length s.term.now) {left right : List ℕ} (sides : SidesOf s.book.now.tables.bytes.now k left right) where
    -- `&term[p..]`
    abbrev from_p : List ℕ
    from_p = take (length s.term.now - p) (drop p s.term.now)

    -- the part at p begins it
    part_there : Begins (signature_on s) s.variables from_p (part (term_on s) p)
    part_there = subst (λ w. Begins (signature_on s) s.variables w (part (term_on s) p)) (sym (take_rest s.term.now p)) (part_begins (signature_on s) s.variables s.term.now (term_on s) p s.reads inside)

    -- so the left side can be matched with it
    pub can_match : IsTerm (signature_on s) 4 left × ((u : Term) × Begins (signature_on s) s.variables from_p u)
    can_match = (((rule_at (rules_on s) k).left, sides.left_reads), (part (term_on s) p, part_there))

    module _ (o : Option Match) (answer : (l u : Term) → Reads (signature_on s) 4 left l → Begins (signature_on s) s.variables from_p u → MatchAnswer (signature_on s) s.variables l u o) where
      matched_there : MatchAnswer (signature_on s) s.variables (rule_at (rules_on s) k).left (part (term_on s) p) o
      matched_there = answer (rule_at (rules_on s) k).left (part (term_on s) p) sides.left_reads part_there

      pub not_matched : o ≡ None → MatchedBy (rules_on s) k (term_on s) p → ⊥
      not_matched none m =
          subst (MatchAnswer (signature_on s) s.variables (rule_at (rules_on s) k).left (part (term_on s) p)) none matched_there m.matches.instance (sym m.matches.is)

      pub rule_matches : (found : Match) (rest : Bor (List ℕ)) → rest.now ≡ right → o ≡ Some found → RuleMatches s k p (record { found = found; right = rest })
      rule_matches found rest e some = record {
        is_rule = sides.listed;
        inside = inside;
        matched = subst (MatchAnswer (signature_on s) s.variables (rule_at (rules_on s) k).left (part (term_on s) p)) some matched_there;
        right_reads = subst (λ w. Reads (signature_on s) 4 w (rule_at (rules_on s) k).right) (sym e) sides.right_reads;
      }

  pub no_match_answer : (MatchedBy (rules_on s) k (term_on s) p → ⊥) → (page : List ℕ) → RewriteAnswer (signature_on s) s.variables (rules_on s) s.term.now k p page page (Err fault.NoMatch)
  no_match_answer n page = ((term_on s, s.reads, n), refl)

-- ── the rule matches ──

module _ (s : Subject) (k p : ℕ) (r : RuleMatch) (by : RuleMatches s k p r) where
  abbrev vars : ℕ
  vars = s.variables

  abbrev t : Term
  t = term_on s

  m : Matched (signature_on s) s.variables (rule_at (rules_on s) k).left (part (term_on s) p) r.found.substitution.parts r.found.len
  m = by.matched

  part_begins_there : Begins (signature_on s) vars (drop p s.term.now) (part t p)
  part_begins_there = part_begins (signature_on s) vars s.term.now t p s.reads by.inside

  pub matched : Matches (rules_on s) k (part t p)
  matched = record { is_rule = by.is_rule; instance = m.instance; is = sym m.is }

  pub can_write : p + r.found.len ≤ length s.term.now
  can_write = omega (arith, m.long, begins_within (signature_on s) vars (drop p s.term.now) (part t p) part_begins_there, length-drop p s.term.now)

  -- the new term
  there : PartAt t p
  there = part_at t p (omega (arith, reads_length (signature_on s) vars s.term.now t s.reads))

  result : Term
  result = plug there.context (sub m.instance (rule_at (rules_on s) k).right)

  term_is : there.term ≡ sub m.instance (rule_at (rules_on s) k).left
  term_is = sym (parts_agree_with_contexts t p there).0 ∙ sym m.is

  free : (x : ℕ) → (Occurs x (rule_at (rules_on s) k).left → ⊥) → m.instance x ≡ var x
  free x d = elim (bound_or_free (bound_to r.found.substitution.parts x)) [ inl b ↦ absurd (d (m.occurs x b.0 b.1)) | inr e ↦ m.stays x e ]

  one_step : OneStep (rules_on s) k p t result
  unfolding result
  one_step = record {
    step = record {
      step = record { number = k; is_rule = by.is_rule; context = there.context; instance = m.instance; before = there.splits ∙ ap (plug there.context) term_is; becomes = refl };
      rule_is = refl;
      place_is = there.at;
    };
    stays = free;
  }

  -- each variable of the right side becomes a term of the signature
  sorted_instance : (4 ≤ vars) ⊎ NothingNew (rules_on s) k → (x : ℕ) → Occurs x (rule_at (rules_on s) k).right → WellSorted (signature_on s) vars (m.instance x)
  sorted_instance v x o = elim (bound_or_free (bound_to r.found.substitution.parts x)) [
    | inl b ↦ (m.agrees x b.0 b.1).sorted
    | inr e ↦ elim v [
      | inl four ↦
          let range = variable_range (signature_on s) 4 (rule_at (rules_on s) k).right by.right_reads.sorted x o in
          subst (WellSorted (signature_on s) vars) (sym (m.stays x e)) (range.0, omega (arith, range.1))
      | inr old ↦ sorted_var (signature_on s) vars m.instance (rule_at (rules_on s) k).left (subst (WellSorted (signature_on s) vars) (sym m.is) part_begins_there.sorted) x (old x o)
    ]
  ]

  sorted_result : (4 ≤ vars) ⊎ NothingNew (rules_on s) k → WellSorted (signature_on s) vars result
  unfolding result
  sorted_result v =
      sorted_plug (signature_on s) vars there.context there.term (sub m.instance (rule_at (rules_on s) k).right) (subst (WellSorted (signature_on s) vars) there.splits s.reads.sorted)
      (sorted_sub (signature_on s) 4 vars m.instance (rule_at (rules_on s) k).right by.right_reads.sorted (sorted_instance v))

  stepped : Stepped (signature_on s) vars (rules_on s) s.term.now k p t result
  stepped = record { reads = s.reads; step = one_step; sorted = sorted_result }

  -- its bytes
  abbrev new_bytes : List ℕ
  new_bytes = replaced s.term.now p r.found.len (instance_of r)

  result_bytes : new_bytes ≡ prefix result
  unfolding result
  result_bytes =
      ap (replaced s.term.now p r.found.len) (instance_is (signature_on s) vars r.found.substitution.parts m.instance m.agrees m.stays r.right.now (rule_at (rules_on s) k).right by.right_reads)
      ∙ replaced_is s.term.now p r.found.len there.context there.term (sub m.instance (rule_at (rules_on s) k).right) (ap prefix (sym there.splits) ∙ s.reads.form) there.at (ap size (term_is ∙ m.is) ∙ sym m.long)

  result_length : length new_bytes ≡ size result
  result_length = ap length result_bytes ∙ prefix_length result

  -- what is written is the answer
  pub step_written : (page after : List ℕ) (o : Option ℕ) → PutInFront page new_bytes after o → RewriteAnswer (signature_on s) vars (rules_on s) s.term.now k p page after (ok_or o fault.NoRoom)
  step_written page after (Some n) w = (t, result, stepped, w.0 ∙ result_length, w.1, w.2 ∙ ap (λ v. v ++ drop n page) result_bytes)
  step_written page after None w = ((t, result, stepped, omega (arith, w.0, result_length)), w.1)
