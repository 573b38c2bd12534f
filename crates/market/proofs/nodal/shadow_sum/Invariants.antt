use Rattle.std.proofs.Common.{◌*ℤ◌}
use Rattle.market.specs.Quoted.{prices_of}
use Rattle.market.proofs.Totals.{Total}
use Rattle.market.proofs.nodal.shadow_sum.Given as goal

abbrev pub invariant-loop-line : goal.invariant-loop-line
invariant-loop-line g l =
    Total 1000000000 (λ k. (g.N.Network.meaning l.network).share k l.bus *ℤ (prices_of l.quote).shadow k) l.line l.total
