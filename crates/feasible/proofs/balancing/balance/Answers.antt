use Rattle.std.proofs.Common.{arith}
use Rattle.std.proofs.lemmas.Int.{ints}
use Rattle.market.proofs.Totals.{none, more}
use Rattle.feasible.proofs.balancing.balance.Goals as goal

pub loop-participant-init : goal.loop-participant-init
loop-participant-init g c = none _ _

pub loop-participant-preserved : goal.loop-participant-preserved
loop-participant-preserved g c =
    let few = g.met.B.OfferBook.few c.args.book.now in
    let count = c.count-participant-end.ensures in
    let total = c.loop-participant.invariant in
    let part = c.injection-total.ensures in
    more _ _ _ _ c.injection-total.result _ total part.value (omega (arith, ints)) (omega (arith, ints)) (omega (arith, ints))
