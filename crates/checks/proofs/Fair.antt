-- Prices without a fault are fair: no line is priced that the step does not observe.
use Rattle.std.proofs.Common.{◌≡◌, ℕ, not, pos, ◌≤ℤ◌, None, ⊎_elim, arith}
use lib.Signed.{lt_z}
use Rattle.std.proofs.lemmas.Int.{ints}
use Rattle.std.proofs.lemmas.Bool.{and_cases, both_ways, not_from_false}
use Rattle.fault.specs.declared.cause.Cause.TheVariants.{UnobservedPrice}
use Rattle.calls.specs.declared.call.Proposal.{Proposal}
use Rattle.network.specs.Grid.{Grid}
use Rattle.market.specs.Laws.{Fair}
use Rattle.market.specs.Market.{Step}
use Rattle.checks.specs.Causes.{unobserved, unobserved_fault}
use Rattle.feasible.specs.First.{first_place}
use Rattle.checks.specs.Proposed.{quoted}
use Rattle.checks.proofs.First.{nowhere_first, placed_nowhere}
use Rattle.checks.proofs.Signs.{not_above}

pub faultless_fair : (g : Grid) (s : Step) (p : Proposal) → unobserved_fault g s (quoted p) ≡ None → Fair g s (quoted p)
faultless_fair g s p e =
    let none = nowhere_first (unobserved s (quoted p)) g.lines (placed_nowhere UnobservedPrice (first_place (unobserved s (quoted p)) g.lines) e) in
    let positive : (k : ℕ) → pos 0 ≤ℤ (quoted p).shadow k = λ k. omega (arith, ints) in
    record {
      positive = λ k l. positive k;
      unobserved = λ k l hidden.
          let u = (quoted p).shadow k in
          let cheap : u ≤ℤ pos 0 =
          ⊎_elim (λ low. not_above u (pos 0) low) (λ seen. absurd (both_ways _ seen (not_from_false _ hidden)))
          (and_cases (lt_z (pos 0) u) (not (s.observed k)) (none k l)) in
          let least = positive k in
          omega (arith, ints);
    }
