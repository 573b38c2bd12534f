-- What an offer book means, and what every book owes.
use Rattle.std.specs.Prelude.{◌≡◌, ℕ, ◌<◌, ◌≤◌, ◌⊎◌, ℤ, pos, negsuc, ◌≤ℤ◌}

-- participants are numbered from 0; a side is 1 for a generator and −1 for a load; a price belongs
-- to a participant and a level
pub record Book : Type 0 where
  pub count : ℕ
  pub bus : ℕ → ℕ
  pub side : ℕ → ℤ
  pub low : ℕ → ℕ
  pub high : ℕ → ℕ
  pub reading : ℕ → ℕ
  pub price : ℕ → ℕ → ℤ

abbrev pub generator : ℤ
generator = pos 1

abbrev pub load : ℤ
load = negsuc 0

-- the lowest and the highest price
abbrev pub least_price : ℤ
least_price = negsuc 24999

abbrev pub most_price : ℤ
most_price = pos 1000000

-- the levels at which a participant has a price
abbrev pub Priced : Book → ℕ → ℕ → Type 0
Priced m i q = (m.low i < q) × (q ≤ m.high i)

pub record Lawful (m : Book) : Type 0 where
  pub few : m.count ≤ 64
  pub buses : (i : ℕ) → m.bus i ≤ 63
  pub sides : (i : ℕ) → i < m.count → (m.side i ≡ generator) ⊎ (m.side i ≡ load)
  pub limits : (i : ℕ) → m.low i ≤ m.high i
  pub highest : (i : ℕ) → m.high i ≤ 20000
  pub readings : (i : ℕ) → m.reading i ≤ 20000
  pub unread : (i : ℕ) → m.side i ≡ generator → m.reading i ≡ 0
  pub least : (i q : ℕ) → least_price ≤ℤ m.price i q
  pub most : (i q : ℕ) → m.price i q ≤ℤ most_price
  pub rises : (i p q : ℕ) → m.side i ≡ generator → m.low i < p → p ≤ q → q ≤ m.high i → m.price i p ≤ℤ m.price i q
  pub falls : (i p q : ℕ) → m.side i ≡ load → m.low i < p → p ≤ q → q ≤ m.high i → m.price i q ≤ℤ m.price i p
  -- a participant that is not there, and a level that is not
  pub no_bus : (i : ℕ) → m.count ≤ i → m.bus i ≡ 0
  pub no_side : (i : ℕ) → m.count ≤ i → m.side i ≡ pos 0
  pub no_high : (i : ℕ) → m.count ≤ i → m.high i ≡ 0
  pub no_reading : (i : ℕ) → m.count ≤ i → m.reading i ≡ 0
  pub below : (i q : ℕ) → q ≤ m.low i → m.price i q ≡ pos 0
  pub above : (i q : ℕ) → m.high i < q → m.price i q ≡ pos 0
