use Rattle.std.proofs.Common.{arith}
use Rattle.std.proofs.lemmas.List.{length-take}
use Rattle.text.proofs.line.Line.put_text.Goals as goal

pub invariant_of-self : goal.invariant_of-self
invariant_of-self c = record { within = simp (c.append.ensures.list, length-take) (omega arith) }
