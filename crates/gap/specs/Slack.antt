-- What the limits of lines leave, at given injections.
use Rattle.std.specs.Prelude.{ℕ, cond, ℤ, pos, ◌-ℤ◌, ◌*ℤ◌}
use Rattle.shelf.specs.Sum.{sum}
use Rattle.network.specs.Grid.{Grid, flow_of}
use Rattle.market.specs.Market.{Step, Prices, room}

-- U·(1,000·limit − flow) on an observed line
abbrev pub slack_at : Grid → Step → Prices → (ℕ → ℤ) → ℕ → ℤ
slack_at g s p injections k = cond (s.observed k) (p.shadow k *ℤ (room s k -ℤ flow_of g k injections)) (pos 0)

-- over the first n lines
abbrev pub slack_up : Grid → Step → Prices → (ℕ → ℤ) → ℕ → ℤ
slack_up g s p injections n = sum n (slack_at g s p injections)
