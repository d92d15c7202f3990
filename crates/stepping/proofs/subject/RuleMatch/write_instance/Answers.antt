use Rattle.std.proofs.Common.{◌+◌, length, get_or, take, sym, ap, ◌∙◌, subst, arith}
use Rattle.terms.specs.Prefix.{expand}
use Rattle.stepping.specs.Bindings.{piece_of}
use Rattle.stepping.specs.Writing.{Written}
use Rattle.stepping.proofs.Writes.{written_then, expand_more, length_more, expand_all, expand_part}
use Rattle.stepping.proofs.subject.RuleMatch.write_instance.Goals as goal

pub write-end-requires : goal.write-end-requires
write-end-requires c =
    let f = piece_of c.args.self.now.found.substitution.parts in
    let more = length_more f c.args.self.now.right.now c.loop-byte.byte-index c.loop-byte-test.true in
    let part = expand_part f c.args.self.now.right.now (c.loop-byte.byte-index + 1) in
    let piece = ap length {y = piece_of c.args.self.now.found.substitution.parts (get_or c.args.self.now.right.now c.loop-byte.byte-index 0)} c.piece.ensures in
    omega (arith, c.loop-byte.invariant.0, c.requires, c.loop-byte.auto.page)

pub loop-byte-preserved : goal.loop-byte-preserved
loop-byte-preserved c =
    let f = piece_of c.args.self.now.found.substitution.parts in
    let right = c.args.self.now.right.now in
    let i = c.loop-byte.byte-index in
    let more = expand_more f right i c.loop-byte-test.true in
    let wrote = subst (λ w. Written c.loop-byte.page c.loop-byte.end w c.write-end.new.page) {y = f (get_or right i 0)} c.piece.ensures c.write-end.ensures.written in (
      (c.write-end.ensures.end ∙ ap (λ n. c.loop-byte.end + n) (ap length {y = piece_of c.args.self.now.found.substitution.parts (get_or c.args.self.now.right.now c.loop-byte.byte-index 0)} c.piece.ensures) ∙ omega (arith, c.loop-byte.invariant.0, length_more f right i c.loop-byte-test.true)),
      subst (λ w. Written c.args.page.now c.args.at w c.write-end.new.page) (sym more)
          (written_then c.args.page.now c.loop-byte.page c.write-end.new.page c.args.at c.loop-byte.end (expand f (take i right)) (f (get_or right i 0)) c.loop-byte.invariant.0 c.loop-byte.invariant.1 wrote),
    )

pub returns : goal.returns
returns c =
    let all = expand_all (piece_of c.args.self.now.found.substitution.parts) c.args.self.now.right.now c.loop-byte.byte-index c.loop-byte-test.false in
    record {
      end = c.loop-byte.invariant.0 ∙ ap (λ w. c.args.at + length w) all;
      written = subst (λ w. Written c.args.page.now c.args.at w c.loop-byte.page) all c.loop-byte.invariant.1;
    }
