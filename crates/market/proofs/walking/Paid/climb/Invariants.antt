use Rattle.market.proofs.Walks.{Up}
use Rattle.market.proofs.walking.Paid.climb.Given as goal

abbrev pub invariant-loop-level : goal.invariant-loop-level
invariant-loop-level g l = Up (g.B.OfferBook.meaning l.self.book.now) l.self.lmp l.self.participant l.from l.level l.total
