-- Abstract rewriting: a relation R on a type A, read as "one step leads from x to y".
use Rattle.std.specs.Prelude.{◌≡◌}
use mathlib.Core.WellFounded.{Acc}

module _ {A : Type 0} (R : A → A → Type 0) where
  -- zero or more steps, one after the other (the reflexive and transitive closure)
  pub data Star : A → A → Type 0 where
    done : {x : A} → Star x x
    step : {x y z : A} → R x y → Star y z → Star x z

  -- a chain of one or more elements, of each two neighbours one of which steps to the other (the equivalence closure)
  pub data Conversion : A → A → Type 0 where
    same : {x : A} → Conversion x x
    forth : {x y z : A} → R x y → Conversion y z → Conversion x z
    back : {x y z : A} → R y x → Conversion y z → Conversion x z

  -- x and y lead to a common element
  abbrev pub Joinable : A → A → Type 0
  Joinable x y = (z : A) × Star x z × Star y z

  -- two single steps from one element can be joined
  abbrev pub LocallyConfluent : Type 0
  LocallyConfluent = (x y z : A) → R x y → R x z → Joinable y z

  -- two runs from one element can be joined
  abbrev pub Confluent : Type 0
  Confluent = (x y z : A) → Star x y → Star x z → Joinable y z

  -- what is convertible can be joined
  abbrev pub ChurchRosser : Type 0
  ChurchRosser = (x y : A) → Conversion x y → Joinable x y

  -- no step leads on from x
  abbrev pub Normal : A → Type 0
  Normal x = (y : A) → R x y → ⊥

  -- n is a normal form of x
  abbrev pub NormalForm : A → A → Type 0
  NormalForm x n = Star x n × Normal n

  -- x has exactly one normal form
  abbrev pub OneNormalForm : A → Type 0
  OneNormalForm x = (n : A) × NormalForm x n × ((m : A) → NormalForm x m → m ≡ n)

  -- no run goes on for ever: every element is accessible, that is, all that it steps to is
  abbrev pub Terminating : Type 0
  Terminating = (x : A) → Acc (λ y x. R x y) x
