-- Parts of a price.
use Rattle.std.specs.Prelude.{ℕ, ℤ, ◌*ℤ◌}
use Rattle.shelf.specs.Sum.{sum}
use Rattle.network.specs.Grid.{Grid}
use Rattle.market.specs.Market.{Prices}

-- the sum over the first n lines of share at bus b times shadow price
abbrev pub shadow_sum : Grid → Prices → ℕ → ℕ → ℤ
shadow_sum g p b n = sum n (λ k. g.share k b *ℤ p.shadow k)
