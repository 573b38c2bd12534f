use Rattle.std.proofs.Common.{◌≡◌, ℤ, arith, rules}
use Rattle.std.proofs.lemmas.Int.{ints, clamps}
use Rattle.std.specs.Int.{int_max}
use Rattle.bounded.specs.Mitigation.{raised}
use Rattle.bounded.proofs.term.Term.mitigate.Goals as goal

-- the greater of two prices is one raised to the other
raised_is : (f p : ℤ) → int_max p f ≡ raised f p
raised_is f p = grind (arith, ints, clamps)

pub returns : goal.returns
returns c = search (rules, raised_is)
