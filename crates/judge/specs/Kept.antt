-- What a judge keeps of its overlaps.
use Rattle.std.specs.Prelude.{◌≡◌, List, Some, None, IsSome}
use Rattle.terms.specs.Term.{Rule}
use Rattle.judge.specs.declared.triple.Triple.{Triple}
use Rattle.judge.specs.declared.progress.Progress.{Progress}
use Rattle.judge.specs.declared.progress.Stage.TheVariants.{Shown}
use Rattle.judge.specs.Overlaps.{IsOverlap, Behind, OverlapFits, JoinsWithin}
use Rattle.judge.specs.Calls.{IsOut}

pub record Kept (rs : List Rule) (s : Progress) : Type 0 where
  -- a ticket is out only of an overlap that was opened, so that its peak and sides are within the limit
  pub out_of : IsSome s.ticket → (t : Triple) × (s.last ≡ Some t) × IsOverlap rs t × OverlapFits rs t
  -- each overlap that was opened and is not out joins within the limits, unless one was left open
  pub settled : s.unjoined ≡ None → (u : Triple) → IsOverlap rs u → (Behind s.last u → ⊥) → (IsOut s u → ⊥) → JoinsWithin rs u
  -- the one that is out joins so if it was shown
  pub shown_joins : s.ticket ≡ Some Shown → (u : Triple) → IsOut s u → JoinsWithin rs u
