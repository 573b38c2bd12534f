use Rattle.std.proofs.Common.{◌≡◌, ℕ}
use Rattle.network.specs.Sheet.{sheet_of}
use Rattle.dispatch.specs.Base.{base_of}
use Rattle.dispatch.specs.Injected.{injected_by}
use Rattle.dispatch.proofs.injecting.injections_of.Given as goal

-- what the participants so far inject
abbrev pub invariant-loop-participant : goal.invariant-loop-participant
invariant-loop-participant g l =
    (b : ℕ) → sheet_of l.sheet b ≡ injected_by (g.B.OfferBook.meaning l.book) (base_of l.dispatch) l.participant b
