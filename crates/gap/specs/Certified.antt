-- What a number certifies that is the gap of a dispatch.
use Rattle.std.specs.Prelude.{◌≡◌, ℕ, ℤ, pos, ◌-ℤ◌, ◌*ℤ◌, ◌≤ℤ◌}
use Rattle.book.specs.Meaning.{Book}
use Rattle.network.specs.Grid.{Grid}
use Rattle.market.specs.Market.{Step, Prices, Feasible, worth, gap}
use Rattle.market.specs.Laws.{Fair, Settled}

pub record Certified (m : Book) (g : Grid) (s : Step) (p : Prices) (x : ℕ → ℕ) (z : ℤ) : Type 0 where
  pub value : z ≡ gap m g s p x
  -- where x is feasible and no unobserved line is priced, no feasible dispatch is worth more by over z
  pub bound : Fair g s p → Feasible m g s x → (y : ℕ → ℕ) → Feasible m g s y → ((pos 1000 *ℤ worth m y) -ℤ (pos 1000 *ℤ worth m x)) ≤ℤ z
  -- and z is 0 exactly where every priced line is full and nobody objects
  pub exact : Fair g s p → Feasible m g s x → (z ≡ pos 0 → Settled m g s p x) × (Settled m g s p x → z ≡ pos 0)
