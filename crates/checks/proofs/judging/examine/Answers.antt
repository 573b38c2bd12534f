use Rattle.std.proofs.Common.{◌≡◌, ℕ, None, sym, subst, rules}
use Rattle.dispatch.specs.Base.{base_of}
use Rattle.feasible.specs.Checks.{Within}
use Rattle.feasible.specs.Places.{Everywhere}
use Rattle.feasible.specs.Stages.{held_to}
use Rattle.checks.specs.Causes.{dispatch_fault, limit_fault, network_fault}
use Rattle.checks.specs.Pointed.{pointed}
use Rattle.checks.proofs.Feasible.{all_within}
use Rattle.fault.proofs.First.{none_both}
use Rattle.checks.proofs.judging.examine.Goals as goal

-- the base points have passed the check of limits
pub unreachable-requires : goal.unreachable-requires
unreachable-requires g c =
    let m = g.B.OfferBook.meaning c.args.book.now in
    let n = g.N.Network.meaning c.args.network.now in
    let s = held_to c.args.step.now in
    let x = pointed c.as_slice.result.now in
    let known : (dispatch_fault m n s x ≡ None) × (base_of c.in_ok-dispatch.dispatch ≡ x) = search rules in
    let P : (ℕ → ℕ) → Type 0 = λ y. Everywhere m.count (Within m y) in
    c.in-None.ensures (subst P (sym known.1) (all_within m x (none_both (limit_fault m x) (network_fault m n s x) known.0).0))
