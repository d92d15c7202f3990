use Rattle.std.proofs.Common.{refl}
use Rattle.stepping.proofs.Results.{behind_the_end, can_match, not_matched, rule_matches}
use Rattle.stepping.proofs.subject.Subject.match_at.Goals as goal

pub returns-then-place-self : goal.returns-then-place-self
returns-then-place-self c = behind_the_end c.args.self.now c.args.rule c.args.place c.if-place-self.true

pub matches-requires : goal.matches-requires
matches-requires c =
    let m = can_match c.args.self.now c.args.rule c.args.place c.if-place-self.false c.in_ok-sides.ensures in
    record { term = m.0; begins = m.1 }

pub returns-in_err-found : goal.returns-in_err-found
returns-in_err-found c =
    rw c.from_residual-in_err-found.ensures
    (not_matched c.args.self.now c.args.rule c.args.place c.if-place-self.false c.in_ok-sides.ensures c.matches.result c.matches.ensures c.in_err-found.was)

pub returns : goal.returns
returns c = rule_matches c.args.self.now c.args.rule c.args.place c.if-place-self.false c.in_ok-sides.ensures c.matches.result c.matches.ensures c.in_ok-found.found c.in_ok-sides.sides.right refl c.in_ok-found.was
