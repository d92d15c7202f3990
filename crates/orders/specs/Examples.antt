-- Small examples: each definition of figures holds of something and fails of something. The one symbol is f with the code 2 and one argument.
use Rattle.std.specs.Prelude.{◌≡◌, ℕ, List, [], ◌∷◌, ◌++◌}
use Rattle.polynomials.specs.Examples.{first_argument}
use Rattle.orders.specs.Figures.{Figured}
use Rattle.orders.specs.FieldQuestions.{Answered}
use Rattle.orders.specs.Ranks.{rank_of}
use Rattle.orders.specs.PathFaults.{RanksRefused}
use Rattle.orders.specs.Polynomials.{interpretation_of, MonomialsFit, HasArguments, polynomial_questions}
use Rattle.orders.specs.PolynomialFaults.{PolynomialsRefused}

-- the symbol alone
abbrev pub bare : List ℕ
bare = 1 ∷ (0 ∷ (2 ∷ (2 ∷ (1 ∷ []))))

-- with the rank 7, and with a rank for another code
abbrev pub ranked : List ℕ
ranked = bare ++ 4 ∷ (0 ∷ (2 ∷ (2 ∷ (7 ∷ []))))

abbrev pub ranked_wrongly : List ℕ
ranked_wrongly = bare ++ 4 ∷ (0 ∷ (2 ∷ (3 ∷ (7 ∷ []))))

-- with the polynomial c X
abbrev pub multiplied_by : ℕ → List ℕ
multiplied_by c = bare ++ 3 ∷ (0 ∷ (8 ∷ (2 ∷ (0 ∷ (0 ∷ (0 ∷ (c ∷ (1 ∷ (0 ∷ (0 ∷ []))))))))))

pub record FiguresHoldAndFail : Type 0 where
  -- ranks: all is well; the symbol has none; a code is not declared
  pub ranks_given : Figured ranked 4
  pub rank_is : rank_of ranked 2 ≡ 7
  pub no_rank : RanksRefused bare 13 0
  pub not_ranked : Figured bare 4 → ⊥
  pub undeclared : RanksRefused ranked_wrongly 12 5
  -- polynomials: all is well; the symbol has none; a coefficient is 0
  pub polynomials_given : Answered polynomial_questions (multiplied_by 3) 3
  pub polynomial_is : interpretation_of (multiplied_by 3) 2 ≡ first_argument 3 1
  pub no_polynomial : PolynomialsRefused bare 11 0
  pub zero : PolynomialsRefused (multiplied_by 0) 9 5
  -- monomials: X fits one argument, not none; X and 2 X are too many; X has the first argument, not the second
  pub fits : MonomialsFit 1 [] (first_argument 1 1)
  pub past_the_arity : MonomialsFit 0 [] (first_argument 1 1) → ⊥
  pub again : MonomialsFit 1 [] (first_argument 1 1 ++ first_argument 2 1) → ⊥
  pub has_first : HasArguments 1 (first_argument 1 1)
  pub lacks_second : HasArguments 2 (first_argument 1 1) → ⊥
