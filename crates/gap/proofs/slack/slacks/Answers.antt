use Rattle.std.proofs.Common.{arith}
use Rattle.std.proofs.lemmas.Int.{ints}
use Rattle.market.proofs.Totals.{none, more}
use Rattle.gap.proofs.slack.slacks.Goals as goal

pub loop-line-init : goal.loop-line-init
loop-line-init g c = none _ _

pub loop-line-preserved : goal.loop-line-preserved
loop-line-preserved g c =
    let few = g.met.N.Network.few c.args.network.now in
    let count = c.lines-line-end.ensures in
    let total = c.loop-line.invariant in
    let part = c.slack-total.ensures in
    more _ _ _ _ c.slack-total.result _ total part.value (omega (arith, ints)) (omega (arith, ints)) (omega (arith, ints))
