use Rattle.std.proofs.Common.{◌≡◌, suc, ◌+◌, arith}
use Rattle.std.proofs.lemmas.Int.{ints}
use Rattle.market.proofs.Walks.{up_more, walked}
use Rattle.market.proofs.walking.Paid.climb.Goals as goal

pub loop-level-preserved : goal.loop-level-preserved
loop-level-preserved g c =
    let paid = c.args.self.now in
    let highest = g.met.B.OfferBook.highest paid.book.now paid.participant in
    let high = c.high-high.ensures in
    let so_far = c.loop-level.invariant.made in
    up_more _ _ _ _ _ _ c.gain-gained.result _ c.requires.0 highest (omega arith) c.loop-level.invariant c.gain-gained.ensures.value (omega (arith, ints)) c.gain-gained.ensures.most (omega (arith, ints))

pub returns-then-gained-le0 : goal.returns-then-gained-le0
returns-then-gained-le0 g c =
    let paid = c.args.self.now in
    let highest = g.met.B.OfferBook.highest paid.book.now paid.participant in
    let high = c.high-high.ensures in
    let value = c.gain-gained.ensures.value in
    let up = c.loop-level.invariant in
    let after : suc c.loop-level.level ≡ c.loop-level.level + 1 = omega arith in
    record { walked = walked _ _ _ _ _ _ _ (omega arith) up.made; start = up.start; end = up.end; next = λ _. rw after (omega (arith, ints)); last = up.last }
