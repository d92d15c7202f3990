-- What a sealed book has.
use Rattle.std.specs.Prelude.{List}
use Rattle.terms.specs.Term.{Rule}
use Rattle.terms.specs.Prefix.{Arities}
use Rattle.rewriting.specs.Relation.{Confluent, Terminating}
use Rattle.rewriting.specs.Rewrite.{StepOf, Proper, RulesOf}

-- The rules are terms of the signature, no left side is a variable and no variable of a right side is new, and they are convergent on the terms of the signature.
pub record Convergent (sig : Arities) (rs : List Rule) : Type 0 where
  pub rules : RulesOf sig 4 rs
  pub proper : Proper rs
  pub terminating : Terminating (StepOf sig 8 rs)
  pub confluent : Confluent (StepOf sig 8 rs)
