-- The theorems, put together.
use Rattle.std.proofs.Common.{◌≡◌, ℕ, List, sym, subst, inl, inr, arith}
use Rattle.terms.specs.Term.{Kind, Tree, Term, Rule, rule_at, Occurs, var, node, nil, cons}
use Rattle.terms.specs.Prefix.{Arities, WellSorted}
use Rattle.rewriting.specs.Relation.{Star, done, step, Confluent, ChurchRosser, NormalForm}
use Rattle.rewriting.specs.Rewrite.{Step, StepOf, Proper, RulesOf, InnermostStep, InnermostSteps, none, more}
use Rattle.rewriting.specs.Unify.{FourVariables}
use Rattle.rewriting.specs.Theorems.{NewmansLemma, ConfluentIffChurchRosser, OneNormalFormTheorem, ConvertibleIffSameNormalForm, ConvergentOnGroundTerms, Unification, OneCriticalPair, OneOverlapList, CriticalPairTheorem, KnuthBendixTheorem, JoinedOverlapsSuffice, InnermostStepTheorem, InnermostStepsSuffice}
use Rattle.rewriting.proofs.Abstract.{newman, church_rosser, conv_append, conv_star, conv_sym, single, nf_unique, word_problem}
use Rattle.rewriting.proofs.Unification as solving
use Rattle.rewriting.proofs.Pairs as pairs
use Rattle.rewriting.proofs.Listing.{overlap_list}
use Rattle.rewriting.proofs.Listing as listing
use Rattle.rewriting.proofs.Innermost.{innermost_or_normal, one_innermost, innermost_ends}
use Rattle.rewriting.proofs.Sorted.{sorted_step, step_of, star_of, local_of}
use Rattle.rewriting.proofs.Termination.{sorted_wider}

pub newmans_lemma : NewmansLemma
newmans_lemma rs = (newman, λ sig vars. newman)

-- two runs from one element are a conversion between their ends
confluent_from : {A : Type 0} {R : A → A → Type 0} → ChurchRosser R → Confluent R
confluent_from c x y z s u = c y z (conv_append (conv_sym (conv_star s)) (conv_star u))

pub confluent_iff_church_rosser : ConfluentIffChurchRosser
confluent_iff_church_rosser rs = ((church_rosser, confluent_from), λ sig vars. (church_rosser, confluent_from))

pub convertible_iff_same_normal_form : ConvertibleIffSameNormalForm
convertible_iff_same_normal_form rs = ((λ c t u n m a b. word_problem c a b), λ sig vars c t u n m a b. word_problem c a b)

-- innermost steps are a run
run : {rs : List Rule} {n : ℕ} {t u : Term} → InnermostSteps rs n t u → Star (Step rs) t u
run none = done
run (more i r) = step i.step.step (run r)

pub innermost_steps_suffice : InnermostStepsSuffice
innermost_steps_suffice rs = (
  (λ ends t. innermost_ends rs (Step rs) (λ t. Unit {0}) (λ t u s w. (s, tt)) t (ends t) tt),
  (λ sig vars rules proper ends t w.
      innermost_ends rs (StepOf sig vars rs) (WellSorted sig vars) (λ t u s v. (step_of sig vars 4 rs rules proper s v, sorted_step sig vars 4 rs rules proper s v)) t (ends t) w),
)

pub one_normal_form : OneNormalFormTheorem
one_normal_form rs proper ends confluent t =
    let r = (innermost_steps_suffice rs).0 ends t in
    (r.1, (run r.2, r.3), λ m form. nf_unique confluent form (run r.2, r.3))

-- a normal form of a term of the signature is one by the steps of the signature
form_of : (sig : Arities) (vars : ℕ) (rs : List Rule) → RulesOf sig 4 rs → Proper rs → (t n : Term) → WellSorted sig vars t → NormalForm (Step rs) t n → NormalForm (StepOf sig vars rs) t n
form_of sig vars rs rules proper t n w f = (star_of sig vars 4 rs rules proper f.0 w, λ u s. f.1 u s.step)

pub convergent_on_ground_terms : ConvergentOnGroundTerms
convergent_on_ground_terms sig rs rules proper ends confluent t u wt wu =
    let vt = sorted_wider sig 0 8 (omega arith) t wt in
    let vu = sorted_wider sig 0 8 (omega arith) u wu in
    let r = (innermost_steps_suffice rs).1 sig 8 rules proper ends t vt in
    let form : NormalForm (Step rs) t r.1 = (run r.2, r.3) in (
      (r.1, form, λ m other. nf_unique confluent (form_of sig 8 rs rules proper t m vt other) (form_of sig 8 rs rules proper t r.1 vt form)),
      λ n m a b. word_problem confluent (form_of sig 8 rs rules proper t n vt a) (form_of sig 8 rs rules proper u m vu b),
    )

pub unification : Unification
unification k s t = solving.unification k s t

pub one_critical_pair : OneCriticalPair
one_critical_pair rs proper i p j a b c a' b' c' x y = pairs.one_critical_pair rs proper i p j a b c a' b' c' x y

pub one_overlap_list : OneOverlapList
one_overlap_list rs = (overlap_list rs, listing.one_overlap_list rs)

pub critical_pair_theorem : CriticalPairTheorem
critical_pair_theorem rs proper four = (pairs.local_joins rs, pairs.joins_local rs proper four)

pub knuth_bendix_theorem : KnuthBendixTheorem
knuth_bendix_theorem rs proper four ends = (
  (λ c. pairs.local_joins rs (λ x y z r s. c x y z (single r) (single s))),
  (λ joins. newman ends (pairs.joins_local rs proper four joins)),
)

-- the variables of well-sorted sides are the first four
variables_of : {k : Kind} (sig : Arities) (n : ℕ) (t : Tree k) → WellSorted sig n t → (x : ℕ) → Occurs x t → WellSorted sig n (var x)
variables_of sig n (var y) w x o = subst (λ z. WellSorted sig n (var z)) (sym o) w
variables_of sig n (node f ts) w x o = variables_of sig n ts w.2 x o
variables_of sig n nil w x o = absurd o
variables_of sig n (cons t ts) w x (inl o) = variables_of sig n t w.0 x o
variables_of sig n (cons t ts) w x (inr o) = variables_of sig n ts w.1 x o

pub four_variables : (sig : Arities) (rs : List Rule) → RulesOf sig 4 rs → FourVariables rs
four_variables sig rs rules i x h o = variables_of sig 4 (rule_at rs i).left (rules i h).0 x o

pub joined_overlaps_suffice : JoinedOverlapsSuffice
joined_overlaps_suffice sig vars rs rules proper ends joins =
    newman ends (local_of sig vars 4 rs rules proper (pairs.joins_local rs proper (four_variables sig rs rules) joins))

pub innermost_step_theorem : InnermostStepTheorem
innermost_step_theorem rs t = (innermost_or_normal rs t, (λ p k u i. i.step.step), one_innermost_of)
  where
    one_innermost_of : Proper rs → (p q k j : ℕ) (u v : Term) → InnermostStep rs t p k u → InnermostStep rs t q j v → (p ≡ q) × (k ≡ j) × (u ≡ v)
    one_innermost_of proper p q k j u v a b = one_innermost rs proper t p q k j u v a b
