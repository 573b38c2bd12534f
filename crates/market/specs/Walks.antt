-- Walks along a participant's levels at a price.
use Rattle.std.specs.Prelude.{◌≡◌, ℕ, suc, ◌<◌, ◌≤◌, cond, ◌&&◌, ℤ, pos, ◌-ℤ◌, neg_ℤ, ◌≤ℤ◌, Some, None, Option, nat_le, nat_lt}
use Rattle.book.specs.Meaning.{Book}
use Rattle.network.specs.Grid.{Grid}
use Rattle.market.specs.Market.{Prices, gain_at, gains_up, forgone_at, lmp}

-- the gains of a walk from one level to another, within what so many tenths can make
pub record Walked (m : Book) (price : ℤ) (i from to : ℕ) (total : ℤ) : Type 0 where
  pub gained : total ≡ gains_up m price i to -ℤ gains_up m price i from
  pub least : neg_ℤ (pos 680000000000000) ≤ℤ total
  pub most : total ≤ℤ pos 680000000000000

-- upward, until the next tenth does not object; the last one passed would not be given back
pub record Climbed (m : Book) (price : ℤ) (i from to : ℕ) (total : ℤ) : Type 0 where
  pub walked : Walked m price i from to total
  pub start : from ≤ to
  pub end : to ≤ m.high i
  pub next : to < m.high i → gain_at m price i (suc to) ≤ℤ pos 0
  pub last : from < to → pos 0 ≤ℤ gain_at m price i to

-- downward, until the last tenth does not object; the next one would not be taken again
pub record Descended (m : Book) (price : ℤ) (i from to : ℕ) (total : ℤ) : Type 0 where
  pub walked : Walked m price i from to total
  pub start : to ≤ from
  pub end : m.low i ≤ to
  pub last : m.low i < to → pos 0 ≤ℤ gain_at m price i to
  pub next : to < from → gain_at m price i (suc to) ≤ℤ pos 0

-- within what two walks can make
abbrev pub Moderate : ℤ → Type 0
Moderate z = (neg_ℤ (pos 1360000000000000) ≤ℤ z) × (z ≤ℤ pos 1360000000000000)

-- what a participant forgoes at a base point within its limits
abbrev pub forgone_or : Book → Grid → Prices → ℕ → ℕ → Option ℤ
forgone_or m g p i q =
    cond (nat_lt i m.count && nat_le (m.low i) q && nat_le q (m.high i)) (Some (forgone_at m (lmp m g p i) i q)) None
