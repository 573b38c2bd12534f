-- What a loaded market means.
use Rattle.std.specs.Prelude.{◌≡◌, ℕ, List, ℤ}
use Rattle.rows.specs.declared.row.Row.{Row}
use Rattle.house.specs.House.{booked, meaning_of as book_of}
use Rattle.network.specs.Table.{grid_of, meaning_of as network_of}
use Rattle.replay.specs.declared.loading.Market.{Market}

-- the market of an offer cap w, rows, and each line's shares
abbrev pub Loaded : ℕ → List Row → List (List ℤ) → Market → Type 0
Loaded w rows shares m = (book_of m.book ≡ booked w rows) × (network_of m.network ≡ grid_of shares)
