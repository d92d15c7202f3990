use Rattle.std.proofs.Common.{◌≡◌, ℕ, ◌+◌, ◌-◌, ◌*◌, List, length, get_or, take, drop, sym, ap, ◌∙◌, ap₂, arith}
use Rattle.polynomials.specs.Coding.{polynomial_from}
use Rattle.orders.specs.Polynomials.{length_before, monomials_from, Whole}
use Rattle.orders.proofs.Interpreting.{length_read}
use Rattle.orders.proofs.polynomial.PolynomialSymbols.monomials.Goals as goal

read_length : (bs read : List ℕ) → read ≡ bs → (p : ℕ) → Whole bs p → 256 * get_or read (p - 3) 0 + get_or read (p - 2) 0 ≡ length_before bs p
read_length bs read e p w = ap (λ bs. 256 * get_or bs (p - 3) 0 + get_or bs (p - 2) 0) e ∙ length_read bs p w.0

pub overflow_sub-result : goal.overflow_sub-result
overflow_sub-result c =
    let p = c.args.self.now in
    let place = c.in-Some.place in
    let w = p.whole c.args.code place (sym c.in-Some.ensures) in
    omega (arith, read_length p.book.tables.bytes.now c.bytes-bytes.result.now c.bytes-bytes.ensures place w, w.1)

pub slice_bounds-result-end-2 : goal.slice_bounds-result-end-2
slice_bounds-result-end-2 c =
    let p = c.args.self.now in
    let place = c.in-Some.place in
    let w = p.whole c.args.code place (sym c.in-Some.ensures) in
    omega (arith, read_length p.book.tables.bytes.now c.bytes-bytes.result.now c.bytes-bytes.ensures place w, ap length c.bytes-bytes.ensures, w.2)

pub returns : goal.returns
returns c =
    let p = c.args.self.now in
    let bs = p.book.tables.bytes.now in
    let place = c.in-Some.place in
    let w = p.whole c.args.code place (sym c.in-Some.ensures) in
    let n = read_length bs c.bytes-bytes.result.now c.bytes-bytes.ensures place w in
    ap polynomial_from
    (ap₂ take (omega (arith, n)) (ap (drop place) c.bytes-bytes.ensures)
    ∙ ap (monomials_from bs) c.in-Some.ensures
    ∙ p.told c.args.code)
