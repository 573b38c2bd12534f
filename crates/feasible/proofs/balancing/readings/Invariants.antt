use Rattle.std.proofs.Common.{pos, ◌≤ℤ◌}
use Rattle.market.proofs.Totals.{Total}
use Rattle.feasible.proofs.balancing.readings.Given as goal

abbrev pub invariant-loop-participant : goal.invariant-loop-participant
invariant-loop-participant g l =
    (pos 0 ≤ℤ l.total) × Total 20000 (λ i. pos ((g.B.OfferBook.meaning l.book).reading i)) l.participant l.total
