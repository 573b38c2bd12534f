use Rattle.std.proofs.Common.{suc, ◌+◌, ◌-◌, ◌≤◌, max}
use Rattle.market.proofs.Totals.{Total}
use Rattle.market.proofs.valuing.cost.Given as goal

abbrev pub invariant-loop-below : goal.invariant-loop-below
invariant-loop-below g l =
    ((g.B.OfferBook.meaning l.book).low l.participant ≤ l.below)
    × (l.below ≤ max ((g.B.OfferBook.meaning l.book).low l.participant) l.level)
    × Total 1000000 (λ t. (g.B.OfferBook.meaning l.book).price l.participant (suc ((g.B.OfferBook.meaning l.book).low l.participant + t))) (l.below - (g.B.OfferBook.meaning l.book).low l.participant) l.total
