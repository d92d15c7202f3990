use Rattle.std.proofs.Common.{◌+◌, [], ◌∷◌, sym, ap, ◌∙◌}
use Rattle.unification.specs.Numbering.{numbered}
use Rattle.unification.proofs.Writes.{image_variable}
use Rattle.unification.proofs.Renumbering.{index_is}
use Rattle.unification.proofs.numbering.number.Goals as goal

pub returns : goal.returns
returns c =
    image_variable (numbered c.args.variables.now) c.args.code c.if-code-lt-VARIABLE.false
    ∙ ap (λ n. (128 + n) ∷ []) (sym (index_is _ _ _ c.first_code.ensures.within c.first_code.ensures.before c.first_code.ensures.found))
