use Rattle.dispatch.specs.Base.{base_of}
use Rattle.market.specs.Quoted.{prices_of}
use Rattle.gap.specs.Forgoing.{Total}
use Rattle.gap.proofs.forgoing.forgoings.Given as goal

abbrev pub invariant-loop-participant : goal.invariant-loop-participant
invariant-loop-participant g l =
    Total (g.B.OfferBook.meaning l.book) (g.N.Network.meaning l.network) (prices_of l.quote) (base_of l.dispatch) l.participant l.total
