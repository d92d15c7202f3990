use Rattle.terms.specs.Prefix.{term_of}
use Rattle.polynomials.proofs.Walks.{throughout_all}
use Rattle.polynomials.proofs.GradeTests.{begins_all, term_held, steep_test}
use Rattle.polynomials.proofs.prefix_term.PrefixTerm.is_steep_in.Goals as goal

pub evaluate-degree-requires : goal.evaluate-degree-requires
evaluate-degree-requires g c = (term_of (g.S.Signature.arities c.args.self.now.symbols.now) c.args.self.now.bytes.now, begins_all _ c.args.self.now.bytes.now _ (term_held (g.S.Signature.arities c.args.self.now.symbols.now) c.args.self.now.bytes.now c.args.self.now.is_one), throughout_all _ (λ t. tt) (term_of (g.S.Signature.arities c.args.self.now.symbols.now) c.args.self.now.bytes.now))

pub returns : goal.returns
returns g c t reads = steep_test (g.S.Signature.arities c.args.self.now.symbols.now) (g.S.Symbols.interpretation c.args.self.now.symbols.now) (g.met.S.Symbols.proper c.args.self.now.symbols.now) t reads.sorted c.args.variable _ (c.evaluate-degree.ensures t (begins_all _ c.args.self.now.bytes.now t reads) (throughout_all _ (λ t. tt) t)).0
