use Rattle.std.proofs.Common.{refl, arith}
use Rattle.std.proofs.lemmas.Int.{ints}
use Rattle.network.proofs.Zeros.{zero_at}
use Rattle.network.proofs.shares.Shares.none.Goals as goal

pub invariant_of-result : goal.invariant_of-result
invariant_of-result c =
    record { buses = refl; least = λ b. omega (arith, ints, zero_at b); most = λ b. omega (arith, ints, zero_at b) }
