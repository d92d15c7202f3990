use Rattle.std.proofs.Common.{◌≡◌, ◌+◌, ◌-◌, ◌≤◌, ◌++◌, length, take, refl, ap, ◌∙◌, arith}
use Rattle.std.proofs.lemmas.Slice.{take-put_mid, drop-put_mid}
use Rattle.stepping.proofs.writing.write.Goals as goal

pub returns : goal.returns
returns c =
    let put = c.copy_from_slice.new.self in
    let same : put ≡ c.args.bytes.now = c.copy_from_slice.ensures.after in
    let at = c.args.at in
    let end = at + length c.args.bytes.now in
    let inside : at ≤ length c.args.page.now = omega (arith, c.requires) in
    record {
      end = refl;
      written = (
        take-put_mid at (end - at) c.args.page.now put end (omega (arith, ap length same)) inside ∙ ap (λ w. take at c.args.page.now ++ w) same,
        drop-put_mid at (end - at) c.args.page.now put end (omega arith) inside (omega (arith, ap length same)),
      );
    }
