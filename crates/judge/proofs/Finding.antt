-- What is found out about a triple of a book.
use Rattle.std.proofs.Common.{◌≡◌, ℕ, ◌+◌, ◌<◌, ◌⊎◌, Decides, Result, Ok, Err, is_ok, List, ◌∷◌, length, get_or, drop, sym, refl, ap, ◌∙◌, ap₂, subst₂, inl, inr, arith}
use Rattle.std.proofs.lemmas.List.{drop_more}
use Rattle.terms.specs.Term.{var, node, Term, Rule, rule_at, IsNode, size}
use Rattle.terms.specs.Prefix.{Arities, Begins}
use Rattle.terms.specs.Place.{part}
use Rattle.terms.proofs.Reading.{prefix_length, bytes_read_as_their_term}
use Rattle.terms.proofs.Parts.{part_begins, side_of}
use Rattle.unification.specs.declared.critical.CriticalPair.{CriticalPair}
use Rattle.unification.specs.declared.critical.NoPair.{NoPair}
use Rattle.unification.specs.declared.critical.NoPair.TheVariants.{Malformed, Apart, TooLong}
use Rattle.unification.specs.Asked.{Asked, rule_of}
use Rattle.unification.specs.Critical.{OfRules, Answer}
use Rattle.unification.proofs.OfList.{of_list, in_list}
use Rattle.book.specs.Meaning.{signature_of, rules_of}
use Rattle.book.specs.Queries.{SidesOf}
use Rattle.judge.specs.declared.triple.Triple.{Triple}
use Rattle.judge.specs.Overlaps.{IsOverlap, Fits, OverlapFits}
use Rattle.judge.specs.Pairs.{PairAnswer}

-- an overlap that is within the limit has a pair
pub not_fitting : (sig : Arities) (rs : List Rule) (t : Triple) (e : NoPair) → PairAnswer sig rs t (Err e) → OverlapFits rs t → ⊥
not_fitting sig rs t Malformed a f = a f.3.pair.overlap
not_fitting sig rs t Apart a f = a f.3.pair.overlap
not_fitting sig rs t TooLong a f = a.1 f

-- and one that has a pair is within the limit
pub fits_if_ok : (sig : Arities) (rs : List Rule) (t : Triple) (answer : Result CriticalPair NoPair) → PairAnswer sig rs t answer → Decides (is_ok answer) (OverlapFits rs t)
fits_if_ok sig rs t (Ok pair) a = (λ _. (a.1.peak, a.1.outer, a.1.inner, a.1.fits), λ _. refl)
fits_if_ok sig rs t (Err e) a = (λ h. absurd cc, λ f. absurd (not_fitting sig rs t e a f))

module _ (bs : List ℕ) (t : Triple) (root : t.p ≡ 0 → t.i < t.j) (l r l' r' : List ℕ) (first : SidesOf bs t.i l r) (second : SidesOf bs t.j l' r') where
  abbrev sig : Arities
  sig = signature_of bs

  abbrev rs : List Rule
  rs = rules_of bs

  abbrev one : Rule
  one = rule_at rs t.i

  abbrev two : Rule
  two = rule_at rs t.j

  is_one : rule_of sig l r ≡ one
  is_one = ap₂ (λ a b. record { left = a; right = b }) (bytes_read_as_their_term sig 4 l one.left first.left_reads) (bytes_read_as_their_term sig 4 r one.right first.right_reads)

  is_two : rule_of sig l' r' ≡ two
  is_two = ap₂ (λ a b. record { left = a; right = b }) (bytes_read_as_their_term sig 4 l' two.left second.left_reads) (bytes_read_as_their_term sig 4 r' two.right second.right_reads)

  of_rules : (c : Result CriticalPair NoPair) → OfRules sig (rule_of sig l r) (rule_of sig l' r') t.p c → OfRules sig one two t.p c
  of_rules c = subst₂ (λ a b. OfRules sig a b t.p c) is_one is_two

  long : length l ≡ size one.left
  long = sym (ap length first.left_reads.form) ∙ prefix_length one.left

  -- a symbol stands at a place exactly if its part is no variable
  symbol_there : t.p < length l → IsNode (part one.left t.p) → get_or l t.p 0 < 128
  symbol_there h n = go (part one.left t.p) n (part_begins sig 4 l one.left t.p first.left_reads h)
    where
      go : (s : Term) → IsNode s → Begins sig 4 (drop t.p l) s → get_or l t.p 0 < 128
      go (node f ts) n b =
          let e = b.form ∙ drop_more l t.p 0 h in
          let same : f ≡ get_or l t.p 0 = cc in
          omega (arith, b.sorted.0, same)
      go (var x) n b = absurd n

  node_there : t.p < length l → get_or l t.p 0 < 128 → IsNode (part one.left t.p)
  node_there h small = go (part one.left t.p) (part_begins sig 4 l one.left t.p first.left_reads h)
    where
      go : (s : Term) → Begins sig 4 (drop t.p l) s → IsNode s
      go (node f ts) b = tt
      go (var x) b =
          let e : x ∷ b.rest ≡ get_or l t.p 0 ∷ drop (t.p + 1) l = b.form ∙ drop_more l t.p 0 h in
          let same : x ≡ get_or l t.p 0 = cc in
          absurd (omega (arith, b.sorted.0, small, same))

  -- an overlap can be asked about
  asked_of : IsOverlap rs t → Asked sig l r t.p l' r'
  asked_of o = record {
    first_left = side_of sig l one.left first.left_reads first.left_most;
    first_right = side_of sig r one.right first.right_reads first.right_most;
    second_left = side_of sig l' two.left second.left_reads second.left_most;
    second_right = side_of sig r' two.right second.right_reads second.right_most;
    inside = omega (arith, o.inside, long);
    symbol = symbol_there (omega (arith, o.inside, long)) o.no_variable;
  }

  pub found : (c : Result CriticalPair NoPair) → Answer sig l r t.p l' r' c → PairAnswer sig rs t c
  found (Err Malformed) a = λ o. a (asked_of o)
  found (Err Apart) a = λ o. of_rules (Err Apart) a.1 o.unifier o.unifies
  found (Err TooLong) a =
      let w = of_rules (Err TooLong) a.1 in (
        record {
          first_rule = first.listed;
          second_rule = second.listed;
          inside = omega (arith, a.0.inside, long);
          no_variable = node_there a.0.inside a.0.symbol;
          unifier = w.μ;
          unifies = w.mgu.unifies;
          proper = root;
        },
        λ f. beyond (w.long f.0 f.1 f.2 (of_list rs t.i t.p t.j f.0 f.1 f.2 f.3.pair)) f.3,
      )
    where
      beyond : {a b c : Term} → (255 < size a) ⊎ ((255 < size b) ⊎ (255 < size c)) → Fits rs t a b c → ⊥
      beyond (inl h) f = omega (arith, h, f.peak_fits)
      beyond (inr (inl h)) f = omega (arith, h, f.outer_fits)
      beyond (inr (inr h)) f = omega (arith, h, f.inner_fits)
  found (Ok pair) a =
      let w = of_rules (Ok pair) a.1 in
      let o : IsOverlap rs t = record {
        first_rule = first.listed;
        second_rule = second.listed;
        inside = omega (arith, a.0.inside, long);
        no_variable = node_there a.0.inside a.0.symbol;
        unifier = w.is_pair.μ;
        unifies = w.is_pair.mgu.unifies;
        proper = root;
      } in (
        o,
        record {
          peak = w.peak;
          outer = w.outer;
          inner = w.inner;
          fits = record {
            pair = in_list rs t.i t.p t.j w.peak w.outer w.inner o w.is_pair;
            peak_fits = w.short.0;
            outer_fits = w.short.1;
            inner_fits = w.short.2;
          };
          outer_bytes = w.outer_bytes;
          inner_bytes = w.inner_bytes;
          sorted = λ proper. (w.outer_sorted (proper t.i first.listed).1, w.inner_sorted (proper t.j second.listed).1);
        },
      )
