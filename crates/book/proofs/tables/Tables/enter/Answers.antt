use Rattle.std.proofs.Common.{◌≡◌, ◌≤◌, ◌⊎◌, refl, ap, inl, inr, arith}
use Rattle.book.specs.declared.shape.Tag.{Tag}
use Rattle.book.specs.declared.shape.Tag.TheVariants.{Polynomial, Rank, Joining}
use Rattle.book.specs.Tags.{tag_number}
use Rattle.book.specs.Views.{meant}
use Rattle.book.proofs.Entering.{other_push}
use Rattle.book.proofs.tables.Tables.enter.Goals as goal

-- the tags of neither symbols nor rules
other_tag : (tag : Tag) → (tag ≡ Polynomial) ⊎ ((tag ≡ Rank) ⊎ (tag ≡ Joining)) → 3 ≤ tag_number tag
other_tag tag (inl e) = omega (arith, ap tag_number e)
other_tag tag (inr (inl e)) = omega (arith, ap tag_number e)
other_tag tag (inr (inr e)) = omega (arith, ap tag_number e)

pub returns-in-Polynomial : goal.returns-in-Polynomial
returns-in-Polynomial c =
    let known = c.in_ok-known_tag.ensures in
    let large : 3 ≤ c.args.field.now.tag = omega (arith, other_tag c.in_ok-known_tag.field-0 c.in-Polynomial.is, known.0) in
    record {
      bytes = refl;
      answer = λ before s. (
        (known.1, (known.2, ((λ t. absurd (omega arith)), ((λ t. absurd (omega arith)), ((λ t. absurd (omega arith)), tt))))),
        other_push _ before s.told (meant c.args.field.now) (λ t. omega arith) (λ t. omega arith),
      );
    }
