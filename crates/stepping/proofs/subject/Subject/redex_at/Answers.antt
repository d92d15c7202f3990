use Rattle.std.proofs.Common.{refl, arith, below_more}
use Rattle.stepping.specs.Subjects.{signature_on, term_on}
use Rattle.stepping.proofs.Bytes.{reads_length}
use Rattle.stepping.proofs.Results.{matched}
use Rattle.stepping.proofs.subject.Subject.redex_at.Goals as goal

pub returns-in-Some : goal.returns-in-Some
returns-in-Some c = record {
  place_is = refl;
  len_is = c.in-Some.ensures.matched.long;
  matches = matched c.args.self.now c.loop-rule.rule c.args.place c.in-Some.matched c.in-Some.ensures;
  lowest = c.loop-rule.invariant;
}

pub loop-rule-preserved : goal.loop-rule-preserved
loop-rule-preserved c =
    let s = c.args.self.now in
    let long = reads_length (signature_on s) s.variables s.term.now (term_on s) s.reads in
    below_more _ _ c.loop-rule.invariant
    (λ m. c.in_default.ensures (record { inside = omega (arith, c.requires, long); matches = m }))
