use Rattle.std.proofs.Common.{arith}
use Rattle.std.proofs.lemmas.Int.{ints, clamps}
use Rattle.bounded.proofs.term.Term.most.Goals as goal

pub returns : goal.returns
returns c =
    let m = c.max.ensures.value in
    let p = c.args.self.now.positive in
    record { value = omega (arith, ints, clamps); positive = omega (arith, ints, clamps) }
