-- What is asked of the widest market, and what its answers say.
use Rattle.std.specs.Prelude.{◌≡◌, ℕ, true, List, ℤ, pos, None, ◌≢◌, slice_index}
use Rattle.book.specs.Meaning.{Book}
use Rattle.dispatch.specs.Base.{holds}
use Rattle.feasible.specs.Checks.{Within}
use Rattle.feasible.specs.Places.{Everywhere}
use Rattle.gap.specs.Certified.{Certified}
use Rattle.house.specs.House.{booked}
use Rattle.market.specs.Market.{Step, Prices, worth}
use Rattle.market.specs.Quoted.{quotable}
use Rattle.network.specs.Grid.{Grid}
use Rattle.network.specs.Table.{grid_of, network_fault}
use Rattle.rows.specs.Rules.{rows_fault}
use Rattle.measure.specs.Widest.{rows_of, lines_of}

-- the book under the greatest offer cap
abbrev pub wide_book : List ℤ → Book
wide_book prices = booked 1000000 (rows_of prices)

abbrev pub wide_grid : List ℤ → Grid
wide_grid shares = grid_of (lines_of shares)

-- every line is observed, with the greatest limit
abbrev pub wide_step : Step
wide_step = record { requirement = pos 0; limit = λ _. pos 1000000; observed = λ _. true }

abbrev pub quoted : ℤ → List ℕ → Prices
quoted system shadow = record { system = system; shadow = λ k. pos (slice_index shadow k) }

abbrev pub based : List ℕ → ℕ → ℕ
based base i = slice_index base i

-- z is the gap of the base points, and certifies them
abbrev pub Judged : List ℤ → List ℤ → ℤ → List ℕ → List ℕ → ℤ → Type 0
Judged prices shares system shadow base z = Certified (wide_book prices) (wide_grid shares) wide_step (quoted system shadow) (based base) z

-- some number is out of range
abbrev pub Unjudged : List ℤ → List ℤ → ℤ → List ℕ → List ℕ → Type 0
Unjudged prices shares system shadow base =
    rows_fault 1000000 (rows_of prices) ≡ None → network_fault (lines_of shares) ≡ None → quotable system shadow ≡ true
    → holds base ≡ true → Everywhere (wide_book prices).count (Within (wide_book prices) (based base)) → ⊥

-- z is the worth of the base points
abbrev pub Valued : List ℤ → List ℕ → ℤ → Type 0
Valued prices base z = z ≡ worth (wide_book prices) (based base)

abbrev pub Unvalued : List ℤ → List ℕ → Type 0
Unvalued prices base = rows_fault 1000000 (rows_of prices) ≡ None → holds base ≢ true
