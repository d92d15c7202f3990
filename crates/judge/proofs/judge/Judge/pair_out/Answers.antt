use Rattle.std.proofs.Common.{Ok, Err, Result, MatchOption, sym, subst}
use Rattle.std.specs.Result.{result_ok}
use mathlib.Core.HLevel.{⊥_prop}
use mathlib.Core.Logic.{∥∥₁_elim}
use Rattle.terms.proofs.Sorts.{well_sorted_prop}
use Rattle.unification.specs.declared.critical.CriticalPair.{CriticalPair}
use Rattle.unification.specs.declared.critical.NoPair.{NoPair}
use Rattle.book.specs.Meaning.{signature_of, rules_of}
use Rattle.judge.specs.declared.judge.Judge.{Judge}
use Rattle.judge.specs.declared.triple.Triple.{Triple}
use Rattle.judge.specs.Calls.{IsOut}
use Rattle.judge.specs.Pairs.{PairAnswer, PairOut}
use Rattle.judge.proofs.Finding.{not_fitting}
use Rattle.judge.proofs.Keeping.{out_fits}
use Rattle.judge.proofs.judge.Judge.pair_out.Goals as goal

pair_is_out : (j : Judge) (t : Triple) → IsOut j.progress t → (answer : Result CriticalPair NoPair) → PairAnswer (signature_of j.book.tables.bytes.now) (rules_of j.book.tables.bytes.now) t answer
    → MatchOption (result_ok answer) (IsOut j.progress t → ⊥) (PairOut (signature_of j.book.tables.bytes.now) (rules_of j.book.tables.bytes.now) j.progress t)
pair_is_out j t out (Ok pair) a =
    let sig = signature_of j.book.tables.bytes.now in
    let w = a.1 in
    record {
      is_out = out;
      peak = w.peak;
      outer = w.outer;
      inner = w.inner;
      fits = w.fits;
      outer_reads = record { sorted = ∥∥₁_elim j.proper (well_sorted_prop sig 8 w.outer) (λ p. (w.sorted p).0); form = sym w.outer_bytes };
      inner_reads = record { sorted = ∥∥₁_elim j.proper (well_sorted_prop sig 8 w.inner) (λ p. (w.sorted p).1); form = sym w.inner_bytes };
    }
pair_is_out j t out (Err e) a =
    λ _. ∥∥₁_elim j.kept ⊥_prop (λ k. not_fitting (signature_of j.book.tables.bytes.now) (rules_of j.book.tables.bytes.now) t e a (out_fits (rules_of j.book.tables.bytes.now) j.progress t k out))

pub returns-then-is_out : goal.returns-then-is_out
returns-then-is_out c =
    let j = c.args.self.now in
    let sig = signature_of j.book.tables.bytes.now in
    let rs = rules_of j.book.tables.bytes.now in
    rw c.ok.ensures.value
    (subst (λ t. MatchOption (result_ok c.pair_of.result) (IsOut j.progress t → ⊥) (PairOut sig rs j.progress t)) c.triple-t.ensures
    (pair_is_out j c.triple-t.result (c.is_out.ensures.0 c.if-is_out.true) c.pair_of.result c.pair_of.ensures))
