-- Reading bytes that are left: the first byte, and the first term.
use Rattle.std.proofs.Common.{◌≡◌, ℕ, ◌+◌, ◌-◌, ◌<◌, List, ◌∷◌, ◌++◌, length, get_or, take, drop, Some, None, Option, sym, ap, ◌∙◌, subst, arith, length-drop}
use Rattle.std.proofs.lemmas.List.{drop_more, take_at, take_rest}
use Rattle.terms.specs.Term.{Term, size}
use Rattle.terms.specs.Prefix.{Arities, prefix, WellSorted, Reads, IsTerm, FirstTerm, term_of}
use Rattle.terms.proofs.Reading.{prefix_length, bytes_read_as_their_term}
use Rattle.terms.proofs.Parts.{begins_unique}

-- the first byte of what is left
pub record FirstByte (b : ℕ) (w bs : List ℕ) (i : ℕ) : Type 0 where
  pub inside : i < length bs
  pub here : get_or bs i 0 ≡ b
  pub rest : w ≡ drop (i + 1) bs

pub first_byte : (b : ℕ) (w bs : List ℕ) (i : ℕ) → b ∷ w ≡ drop i bs → FirstByte b w bs i
first_byte b w bs i e =
    let h : i < length bs = omega (arith, ap length e, length-drop i bs) in
    let f : b ∷ w ≡ get_or bs i 0 ∷ drop (i + 1) bs = e ∙ drop_more bs i 0 h in
    record { inside = h; here = cc; rest = cc }

module _ (sig : Arities) (vars : ℕ) where
  -- a term has as many bytes as symbols and variables
  pub reads_length : (bs : List ℕ) (t : Term) → Reads sig vars bs t → length bs ≡ size t
  reads_length bs t r = sym (ap length r.form) ∙ prefix_length t

  -- what is found in `&bytes[j..]`
  pub first_from : (bytes : List ℕ) (j : ℕ) (o : Option ℕ) → FirstTerm sig vars (take (length bytes - j) (drop j bytes)) o → FirstTerm sig vars (drop j bytes) o
  first_from bytes j o f = subst (λ w. FirstTerm sig vars w o) (take_rest bytes j) f

  -- the first term is the one that begins the bytes
  pub first_term_is : (bs : List ℕ) (n : ℕ) → FirstTerm sig vars bs (Some n) → (u : Term) (rest : List ℕ) → WellSorted sig vars u → prefix u ++ rest ≡ bs → (n ≡ size u) × (prefix u ≡ take n bs)
  first_term_is bs n f u rest w e =
      let same : f.0 ≡ u = begins_unique sig vars bs f.0 u f.1 (record { sorted = w; rest = rest; form = e }) in
      let long : n ≡ size u = sym f.2 ∙ ap size same in
      (long, sym (take_at (prefix u) rest n (prefix_length u ∙ sym long)) ∙ ap (take n) e)

  pub first_term_some : (bs : List ℕ) → FirstTerm sig vars bs None → (u : Term) (rest : List ℕ) → WellSorted sig vars u → prefix u ++ rest ≡ bs → ⊥
  first_term_some bs f u rest w e = f u (record { sorted = w; rest = rest; form = e })

  -- bytes that are a term are the term that they read as
  pub reads_itself : (bs : List ℕ) → IsTerm sig vars bs → Reads sig vars bs (term_of sig bs)
  reads_itself bs t = subst (Reads sig vars bs) (sym (bytes_read_as_their_term sig vars bs t.0 t.1)) t.1
