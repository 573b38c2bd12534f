use Rattle.dispatch.specs.Base.{base_of}
use Rattle.dispatch.specs.Injected.{injection}
use Rattle.market.proofs.Totals.{Total}
use Rattle.feasible.proofs.balancing.balance.Given as goal

abbrev pub invariant-loop-participant : goal.invariant-loop-participant
invariant-loop-participant g l = Total 20000 (injection (g.B.OfferBook.meaning l.book) (base_of l.dispatch)) l.participant l.total
