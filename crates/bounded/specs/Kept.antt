-- Mitigation from a table over a lawful book is a lawful book.
use Rattle.std.specs.Prelude.{slice_index_or}
use Rattle.std.proofs.Common.{arith}
use Rattle.std.proofs.lemmas.Int.{ints}
use Rattle.book.specs.Meaning.{Book, Lawful}
use Rattle.bounded.specs.Mitigation.{Measured, layered}
use Rattle.bounded.specs.Tabled.{terms_of, fresh_term, layer_of}
use Rattle.bounded.specs.Layered.{layered_lawful}
use Rattle.bounded.specs.declared.table.Table.{Table}
use Rattle.bounded.specs.declared.term.Term.{Term}

-- a term's type says what the law needs of it
measured : (t : Term) → Measured (terms_of t)
measured t = let a = t.under in let b = t.positive in record { floor_most = a; ceiling_least = omega (arith, ints) }

pub table_lawful : (m : Book) (t : Table) → Lawful m → Lawful (layered m (layer_of t))
table_lawful m t law = layered_lawful m (layer_of t) law (λ i. measured (slice_index_or t.terms i fresh_term))
