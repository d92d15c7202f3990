-- Looking for the lowest rule that matches at a place, and for the innermost place, from left to right.
use Rattle.std.proofs.Common.{◌≡◌, ℕ, ◌+◌, ◌-◌, ◌<◌, ◌≤◌, List, length, Some, None, Option, Ok, below_more, sym, ap, ◌∙◌, subst, inl, inr, arith}
use Rattle.std.specs.Option.{option_map, option_or}
use Rattle.std.proofs.lemmas.Bool.{cases_lt, cases_order}
use Rattle.terms.specs.Term.{Term, Rule, size}
use Rattle.terms.specs.Prefix.{Arities, Reads}
use Rattle.terms.specs.Place.{part, place}
use Rattle.rewriting.specs.Relation.{Normal}
use Rattle.rewriting.specs.Rewrite.{Matches, Step, MatchedAt, InnermostAt}
use Rattle.rewriting.proofs.Innermost.{matched_there}
use Rattle.stepping.specs.declared.outcome.Redex.{Redex}
use Rattle.stepping.specs.declared.search.Candidate.{Candidate}
use Rattle.stepping.specs.Stepping.{InnermostBy, InnermostAnswer}
use Rattle.stepping.specs.Redexes.{LowestAt, FoundThere, FoundInnermost}

module _ (rs : List Rule) (t : Term) where
  -- ── the rules at one place ──

  -- no rule below k matches the part at p
  abbrev pub NoneBelow : ℕ → ℕ → Type 0
  NoneBelow p k = (j : ℕ) → j < k → Matches rs j (part t p) → ⊥

  pub none_below_all : (p k : ℕ) → NoneBelow p k → length rs ≤ k → (j : ℕ) → Matches rs j (part t p) → ⊥
  none_below_all p k inv h j m = inv j (omega (arith, m.is_rule)) m

  -- ── the places so far ──

  -- a rule matches at the candidate, none behind it so far, and no place before it is innermost
  pub record StandsSoFar (p : ℕ) (c : Candidate) : Type 0 where
    pub before : c.redex.place < p
    pub inside : c.redex.place < size t
    pub there : LowestAt rs t c.redex.place c
    pub none_behind : (q : ℕ) → c.redex.place < q → q < p → MatchedAt rs t q → ⊥
    pub least : (q : ℕ) → q < c.redex.place → InnermostAt rs t q → ⊥

  -- the places below p are searched
  abbrev pub Searched : ℕ → Option Candidate → Type 0
  Searched p None = (q : ℕ) → q < p → MatchedAt rs t q → ⊥
  Searched p (Some c) = StandsSoFar p c

  -- and the candidate's part has not ended before p
  abbrev pub NotEnded : ℕ → Option Candidate → Type 0
  NotEnded p None = Unit {0}
  NotEnded p (Some c) = p - c.redex.place < c.len

  pub nothing_there : (p : ℕ) → FoundThere rs t p None → MatchedAt rs t p → ⊥
  nothing_there p f m = f m.rule m.matches

  search_past : (p : ℕ) (found : Option Candidate) → Searched p found → FoundThere rs t p None → Searched (p + 1) found
  search_past p None s f = below_more _ _ s (nothing_there p f)
  search_past p (Some c) s f = record {
    before = omega (arith, s.before);
    inside = s.inside;
    there = s.there;
    none_behind = λ q a h m. elim (cases_lt q p) [ inl l ↦ s.none_behind q a l m | inr l ↦ nothing_there p f (subst (MatchedAt rs t) (omega arith) m) ];
    least = s.least;
  }

  -- where a rule matches at p, no place before it is innermost
  none_before : (p : ℕ) (found : Option Candidate) → Searched p found → NotEnded p found → MatchedAt rs t p → (q : ℕ) → q < p → InnermostAt rs t q → ⊥
  none_before p None s w m q h i = s q h i.matched
  none_before p (Some c) s w m q h i = elim (cases_order q c.redex.place) [
    | inl e ↦ i.none_inside p h (omega (arith, s.before, s.there.len_is, ap (λ z. size (part t z)) e)) m
    | inr d ↦ elim d [ inl l ↦ s.least q l i | inr l ↦ s.none_behind q l h i.matched ]
  ]

  search_new : (p : ℕ) (found : Option Candidate) (c : Candidate) → p < size t → Searched p found → NotEnded p found → LowestAt rs t p c → Searched (p + 1) (Some c)
  search_new p found c inside s w f =
      let m : MatchedAt rs t p = record { inside = inside; rule = c.redex.rule; matches = f.matches } in
      record {
        before = omega (arith, f.place_is);
        inside = omega (arith, f.place_is);
        there = subst (λ z. LowestAt rs t z c) (sym f.place_is) f;
        none_behind = λ q a h x. omega (arith, f.place_is);
        least = λ q h i. none_before p found s w m q (omega (arith, f.place_is)) i;
      }

  -- what is found at p, or else what was found before
  pub search_there : (p : ℕ) (found here : Option Candidate) → p < size t → Searched p found → NotEnded p found → FoundThere rs t p here → Searched (p + 1) (option_or here found)
  search_there p found (Some c) inside s w f = search_new p found c inside s w f
  search_there p found None inside s w f = search_past p found s f

  -- ── the end ──

  candidate_is_innermost : (p : ℕ) (c : Candidate) → StandsSoFar p c → ((q : ℕ) → q < c.redex.place + c.len → MatchedAt rs t q → q < p) → InnermostBy rs t c.redex.place c.redex.rule
  candidate_is_innermost p c s ended = record {
    innermost = record {
      matched = record { inside = s.inside; rule = c.redex.rule; matches = s.there.matches };
      none_inside = λ q a h m. s.none_behind q a (ended q (omega (arith, s.there.len_is)) m) m;
    };
    least = s.least;
    matches = s.there.matches;
    lowest = s.there.lowest;
  }

  -- the candidate's part has ended
  pub candidate_ended : (p : ℕ) (c : Candidate) → StandsSoFar p c → c.len ≤ p - c.redex.place → InnermostBy rs t c.redex.place c.redex.rule
  candidate_ended p c s h = candidate_is_innermost p c s (λ q l m. omega (arith, s.before))

  -- all places are searched
  pub search_end : (p : ℕ) (found : Option Candidate) → Searched p found → size t ≤ p → FoundInnermost rs t (option_map (λ c. c.redex) found)
  search_end p None s h = λ q m. s q (omega (arith, m.inside)) m
  search_end p (Some c) s h = candidate_is_innermost p c s (λ q l m. omega (arith, m.inside))

  -- where no rule matches, there is no step
  pub nothing_matches : ((p : ℕ) → MatchedAt rs t p → ⊥) → Normal (Step rs) t
  nothing_matches n u s = n (place s.context) (matched_there rs t u s)

  -- the answer of the whole term
  pub innermost_answer : (sig : Arities) (vars : ℕ) (term : List ℕ) (found : Option Redex) → Reads sig vars term t → FoundInnermost rs t found → InnermostAnswer sig vars rs term (Ok found)
  innermost_answer sig vars term None reads none = (t, reads, none, nothing_matches none)
  innermost_answer sig vars term (Some r) reads by = (t, reads, by)

  -- past the first test the candidate is as it was, and its part has not ended
  pub goes_on_some : (p : ℕ) (found next : Option Candidate) (c : Candidate) → Searched p found → found ≡ Some c → next ≡ Some c → p - c.redex.place < c.len → Searched p next × NotEnded p next
  goes_on_some p found next c s e f h = (subst (Searched p) (e ∙ sym f) s, subst (NotEnded p) (sym f) h)

  pub goes_on_none : (p : ℕ) (found next : Option Candidate) → Searched p found → found ≡ None → next ≡ found → Searched p next × NotEnded p next
  goes_on_none p found next s e f = (subst (Searched p) (sym f) s, subst (NotEnded p) (sym (f ∙ e)) tt)
