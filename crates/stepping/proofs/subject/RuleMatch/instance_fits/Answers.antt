use Rattle.std.proofs.Common.{◌≡◌, ℕ, ◌+◌, length, get_or, refl, ap, arith}
use Rattle.stepping.specs.Bindings.{piece_of}
use Rattle.stepping.proofs.Writes.{length_more, expand_all, expand_part}
use Rattle.stepping.proofs.subject.RuleMatch.instance_fits.Goals as goal

pub returns-then-n-left : goal.returns-then-n-left
returns-then-n-left c =
    let f = piece_of c.args.self.now.found.substitution.parts in
    let more = length_more f c.args.self.now.right.now c.loop-byte.byte-index c.loop-byte-test.true in
    let part = expand_part f c.args.self.now.right.now (c.loop-byte.byte-index + 1) in
    let piece = ap length {y = piece_of c.args.self.now.found.substitution.parts (get_or c.args.self.now.right.now c.loop-byte.byte-index 0)} c.piece-n.ensures in
    let inv = c.loop-byte.invariant in (
      (λ e. let z : ◌≡◌ {A = ℕ} 0 1 = cc in absurd (omega arith)),
      (λ h. absurd (omega (arith, c.if-n-left.true))),
    )

pub loop-byte-preserved : goal.loop-byte-preserved
loop-byte-preserved c =
    let more = length_more (piece_of c.args.self.now.found.substitution.parts) c.args.self.now.right.now c.loop-byte.byte-index c.loop-byte-test.true in
    let piece = ap length {y = piece_of c.args.self.now.found.substitution.parts (get_or c.args.self.now.right.now c.loop-byte.byte-index 0)} c.piece-n.ensures in
    let inv = c.loop-byte.invariant in
    omega (arith, c.if-n-left.false)

pub returns : goal.returns
returns c =
    let all = ap length (expand_all (piece_of c.args.self.now.found.substitution.parts) c.args.self.now.right.now c.loop-byte.byte-index c.loop-byte-test.false) in
    let inv = c.loop-byte.invariant in
    ((λ e. omega arith), λ h. refl)
