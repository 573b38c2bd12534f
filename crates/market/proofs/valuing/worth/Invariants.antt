use Rattle.std.proofs.Common.{◌*ℤ◌, neg_ℤ}
use Rattle.dispatch.specs.Base.{base_of}
use Rattle.market.specs.Market.{cost}
use Rattle.market.proofs.Totals.{Total}
use Rattle.market.proofs.valuing.worth.Given as goal

abbrev pub invariant-loop-participant : goal.invariant-loop-participant
invariant-loop-participant g l =
    Total 34000000000 (λ i. neg_ℤ ((g.B.OfferBook.meaning l.book).side i *ℤ cost (g.B.OfferBook.meaning l.book) i (base_of l.dispatch i))) l.participant l.total
