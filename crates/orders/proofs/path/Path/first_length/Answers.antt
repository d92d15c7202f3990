use Rattle.book.specs.Meaning.{signature_of}
use Rattle.orders.proofs.PathBytes.{first_inside}
use Rattle.orders.proofs.path.Path.first_length.Goals as goal

pub returns : goal.returns
returns c = record {
  inside = first_inside (signature_of c.args.self.now.book.tables.bytes.now) c.args.bytes.now c.first_term_length.result c.first_term_length.ensures;
  first = c.first_term_length.ensures;
}
