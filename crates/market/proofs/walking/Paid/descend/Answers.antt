use Rattle.std.proofs.Common.{neg_ℤ, neg_ℤ, arith}
use Rattle.std.proofs.lemmas.Int.{ints}
use Rattle.market.proofs.Walks.{down_more, down_stops}
use Rattle.market.proofs.walking.Paid.descend.Goals as goal

pub loop-level-preserved : goal.loop-level-preserved
loop-level-preserved g c =
    let paid = c.args.self.now in
    let highest = g.met.B.OfferBook.highest paid.book.now paid.participant in
    let low = c.low-low.ensures in
    let gain = c.gain-saved.result in
    let value = c.gain-saved.ensures.value in
    let so_far = c.loop-level.invariant.made in
    down_more _ _ _ _ _ _ (neg_ℤ gain) _ (omega arith) (omega arith) c.loop-level.invariant (omega (arith, ints)) (omega (arith, ints)) (omega (arith, ints)) (omega (arith, ints))

pub returns-then-saved-le0 : goal.returns-then-saved-le0
returns-then-saved-le0 g c =
    let paid = c.args.self.now in
    let highest = g.met.B.OfferBook.highest paid.book.now paid.participant in
    let low = c.low-low.ensures in
    let value = c.gain-saved.ensures.value in
    down_stops _ _ _ _ _ _ _ (omega arith) c.loop-level.invariant (omega arith) (omega (arith, ints))
