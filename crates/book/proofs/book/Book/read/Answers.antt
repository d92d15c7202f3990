use Rattle.book.proofs.book.Book.read.Goals as goal

pub invariant_of-self : goal.invariant_of-self
invariant_of-self c = record { holds = ∣ c.in_ok-self.ensures.2 ∣₁ }
