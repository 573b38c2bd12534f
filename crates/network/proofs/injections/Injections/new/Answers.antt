use Rattle.std.proofs.Common.{refl, arith}
use Rattle.std.proofs.lemmas.Int.{ints}
use Rattle.network.proofs.Zeros.{zero_at}
use Rattle.network.proofs.injections.Injections.new.Goals as goal

pub invariant_of-result : goal.invariant_of-result
invariant_of-result c =
    record { buses = refl; least = λ b. omega (arith, ints, zero_at b); most = λ b. omega (arith, ints, zero_at b) }

pub returns : goal.returns
returns c b = zero_at b
