-- What participants forgo whose base points lie within their limits.
use Rattle.std.specs.Prelude.{◌≡◌, ℕ, ◌*◌, ℤ, pos, neg_ℤ, ◌≤ℤ◌}
use Rattle.shelf.specs.Sum.{sum}
use Rattle.book.specs.Meaning.{Book}
use Rattle.network.specs.Grid.{Grid}
use Rattle.market.specs.Market.{Prices, forgone}
use Rattle.market.specs.Walks.{Moderate}
use Rattle.feasible.specs.Checks.{Within}
use Rattle.feasible.specs.Places.{Everywhere}

pub record Part (m : Book) (g : Grid) (p : Prices) (x : ℕ → ℕ) (i : ℕ) (z : ℤ) : Type 0 where
  pub within : Within m x i
  pub value : z ≡ forgone m g p x i
  pub moderate : Moderate z

-- of the first n participants
pub record Total (m : Book) (g : Grid) (p : Prices) (x : ℕ → ℕ) (n : ℕ) (z : ℤ) : Type 0 where
  pub within : Everywhere n (Within m x)
  pub value : z ≡ sum n (forgone m g p x)
  pub least : neg_ℤ (pos (n * 1360000000000000)) ≤ℤ z
  pub most : z ≤ℤ pos (n * 1360000000000000)
