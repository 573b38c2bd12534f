-- Lines that carry more than they may, at the injections of a dispatch.
use Rattle.std.proofs.Common.{◌≡◌, ℕ, true, false, ℤ, ◌*ℤ◌, ap, ⊎_elim, arith}
use lib.Signed.{lt_z}
use Rattle.std.proofs.lemmas.Int.{ints}
use Rattle.std.proofs.lemmas.Bool.{and_parts, and_from, both_ways, cases_Bool}
use Rattle.shelf.proofs.Sum.{sum_same}
use Rattle.book.specs.Meaning.{Book}
use Rattle.network.specs.Grid.{Grid, flow_of}
use Rattle.dispatch.specs.Injected.{injected, dispatch_flow}
use Rattle.market.specs.Market.{Step, room}
use Rattle.feasible.specs.Checks.{Carried, over}

module _ (m : Book) (g : Grid) (x : ℕ → ℕ) (sheet : ℕ → ℤ) (same : (b : ℕ) → sheet b ≡ injected m x b) (k : ℕ) where
  pub flow_same : flow_of g k sheet ≡ dispatch_flow m g x k
  flow_same = sum_same 64 (λ b. g.share k b *ℤ sheet b) (λ b. g.share k b *ℤ injected m x b) (λ b _. ap (λ z. g.share k b *ℤ z) (same b))

  module _ (s : Step) where
    pub over_fails : over g s sheet k ≡ true → Carried m g s x k → ⊥
    over_fails e carried =
        let both = and_parts (s.observed k) (lt_z (room s k) (flow_of g k sheet)) e in
        let light = carried both.0 in
        let flow = flow_same in
        omega (arith, ints, both.1)

    pub over_carried : over g s sheet k ≡ false → Carried m g s x k
    over_carried e seen =
        let flow = flow_same in
        ⊎_elim (λ heavy. absurd (both_ways _ e (and_from _ _ seen heavy))) (λ light. omega (arith, ints, light)) (cases_Bool (lt_z (room s k) (flow_of g k sheet)))
