use Rattle.std.proofs.Common.{◌++◌, length, drop, sym, ap, ◌∙◌}
use Rattle.terms.proofs.Reading.{prefix_length}
use Rattle.judge.proofs.judge.Judge.sides.Goals as goal

pub returns : goal.returns
returns c =
    let w = rw c.in_ok-pair.ensures.ok_part at c.pair_out.ensures in
    let a = c.as_slice-a.ensures ∙ sym w.outer_reads.form in
    let b = c.as_slice-b.ensures ∙ sym w.inner_reads.form in
    record {
      is_out = w.is_out;
      outer_suffices = c.if-outer-lt-TERM.false;
      inner_suffices = c.if-inner-lt-TERM.false;
      peak = w.peak;
      outer = w.outer;
      inner = w.inner;
      fits = w.fits;
      outer_length = ap length a ∙ prefix_length w.outer;
      inner_length = ap length b ∙ prefix_length w.inner;
      outer_laid = c.copy_front.ensures ∙ ap (λ x. x ++ drop (length c.as_slice-a.result.now) c.args.outer.now) a;
      inner_laid = c.copy_front-2.ensures ∙ ap (λ x. x ++ drop (length c.as_slice-b.result.now) c.args.inner.now) b;
    }
