use Rattle.market.proofs.Walks.{Down}
use Rattle.market.proofs.walking.Paid.descend.Given as goal

abbrev pub invariant-loop-level : goal.invariant-loop-level
invariant-loop-level g l = Down (g.B.OfferBook.meaning l.self.book.now) l.self.lmp l.self.participant l.from l.level l.total
