-- The small examples.
use Rattle.std.proofs.Common.{◌≡◌, ℕ, List, [], ◌∷◌, None, refl, inl, arith, lit<, lit≤}
use Rattle.terms.specs.Prefix.{IsTerm}
use Rattle.terms.specs.Examples.{sample, hxfe, DefinitionsHoldAndFail}
use Rattle.terms.proofs.Scans.{scan, first_is}
use Rattle.terms.proofs.Parts.{no_term_from_first, first_from_term}

not_one : (n : ℕ) (bs : List ℕ) → scan sample n 1 bs ≡ None → IsTerm sample n bs → ⊥
not_one n bs s p = no_term_from_first sample n bs (first_is sample n bs None s) p

pub definitions_hold_and_fail : DefinitionsHoldAndFail
definitions_hold_and_fail = record {
  bytes = refl;
  term = (hxfe, record { sorted = (lit< tt, refl, ((lit≤ tt, lit< tt), ((lit< tt, refl, ((lit< tt, refl, tt), tt)), tt))); form = refl });
  no_ground_term = not_one 0 (4 ∷ (128 ∷ (2 ∷ (1 ∷ [])))) refl;
  reads_as = refl;
  too_short = not_one 8 (4 ∷ (128 ∷ [])) refl;
  too_long = λ p. omega (arith, first_from_term sample 8 (2 ∷ (1 ∷ (1 ∷ []))) 2 (first_is sample 8 (2 ∷ (1 ∷ (1 ∷ []))) _ refl) p);
  no_symbol = not_one 8 (3 ∷ []) refl;
  nothing = not_one 8 [] refl;
  split = refl;
  place_is = refl;
  position_is = refl;
  part_is = refl;
  replaced = refl;
  part_inside = refl;
  occurs = inl refl;
  is_ground = λ x o. o;
  not_ground = λ g. g 128 (inl refl);
  instance = refl;
  no_variable = tt;
  variable = λ v. v;
}
