-- The rows and lines of the widest market, from lists of prices and shares; a list that is too short goes on with 0.
use Rattle.std.specs.Prelude.{ℕ, ◌+◌, ◌*◌, List, get_or, ℤ, pos, slice_index_or}
use Rattle.rows.specs.declared.row.Point.{Point}
use Rattle.rows.specs.declared.row.Row.{Row}
use Rattle.measure.specs.Listed.{listed}

-- participant i's points are 1,900 tenths apart and have ten prices of the list
abbrev pub point_of : List ℤ → ℕ → ℕ → Point
point_of prices i k = record { level = 1900 * (k + 1); price = slice_index_or prices (10 * i + k) (pos 0) }

abbrev pub points_of : List ℤ → ℕ → List Point
points_of prices i = listed 0 10 (point_of prices i)

-- a thermal unit from 0 to 20,000 at a bus of its own
abbrev pub row_of : List ℤ → ℕ → Row
row_of prices i =
    record {
      letter = 78;
      bus = i;
      lsl = 0;
      ldl = 0;
      hdl = 20000;
      hsl = 20000;
      reading = 0;
      points = record { count = 10; items = points_of prices i };
    }

abbrev pub rows_of : List ℤ → List Row
rows_of prices = listed 0 64 (row_of prices)

-- line k has 64 shares of the list
abbrev pub line_of : List ℤ → ℕ → List ℤ
line_of shares k = listed 0 64 (λ b. get_or shares (64 * k + b) (pos 0))

abbrev pub lines_of : List ℤ → List (List ℤ)
lines_of shares = listed 0 32 (line_of shares)
