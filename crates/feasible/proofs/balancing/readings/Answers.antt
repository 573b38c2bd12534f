use Rattle.std.proofs.Common.{pos, ap, arith}
use Rattle.std.proofs.lemmas.Int.{ints}
use Rattle.market.proofs.Totals.{none, more}
use Rattle.feasible.proofs.balancing.readings.Goals as goal

pub loop-participant-init : goal.loop-participant-init
loop-participant-init g c = (omega (arith, ints), none _ _)

pub loop-participant-preserved : goal.loop-participant-preserved
loop-participant-preserved g c =
    let few = g.met.B.OfferBook.few c.args.book.now in
    let count = c.count-participant-end.ensures in
    let near = g.met.B.OfferBook.readings c.args.book.now c.loop-participant.participant in
    let reading = c.reading.ensures in
    let total = c.loop-participant.invariant in
    (omega (arith, ints), more _ _ _ _ (pos c.reading.result) _ total.1 (ap pos reading) (omega (arith, ints)) (omega (arith, ints)) (omega (arith, ints)))
