use Rattle.terms.specs.Prefix.{term_of}
use Rattle.polynomials.proofs.Shifting.{room_throughout}
use Rattle.polynomials.proofs.GradeTests.{begins_all, term_held}
use Rattle.polynomials.proofs.prefix_term.PrefixTerm.shifted_coefficients.Goals as goal

pub evaluate-requires : goal.evaluate-requires
evaluate-requires g c =
    let held = term_held (g.S.Signature.arities c.args.self.now.symbols.now) c.args.self.now.bytes.now c.args.self.now.is_one in
    (term_of (g.S.Signature.arities c.args.self.now.symbols.now) c.args.self.now.bytes.now, begins_all _ c.args.self.now.bytes.now _ held, room_throughout (g.S.Signature.arities c.args.self.now.symbols.now) (g.S.Symbols.interpretation c.args.self.now.symbols.now) (g.met.S.Symbols.proper c.args.self.now.symbols.now) (term_of (g.S.Signature.arities c.args.self.now.symbols.now) c.args.self.now.bytes.now) held.sorted (c.requires (term_of (g.S.Signature.arities c.args.self.now.symbols.now) c.args.self.now.bytes.now) held))

pub returns : goal.returns
returns g c t reads = (c.evaluate.ensures t (begins_all _ c.args.self.now.bytes.now t reads) (room_throughout (g.S.Signature.arities c.args.self.now.symbols.now) (g.S.Symbols.interpretation c.args.self.now.symbols.now) (g.met.S.Symbols.proper c.args.self.now.symbols.now) t reads.sorted (c.requires t reads))).0
