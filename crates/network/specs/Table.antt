-- What a table network means, and what rows of shares mean as one.
use Rattle.std.specs.Prelude.{ℕ, suc, Bool, cond, ◌&&◌, List, [], ◌∷◌, length, map, ℤ, pos, ◌*ℤ◌, Some, None, Option, int_le, nat_le, slice_index_or}
use Rattle.std.specs.List.{list_all}
use Rattle.fault.specs.First.{or_else}
use Rattle.fault.specs.declared.cause.Cause.TheVariants.{LineCount, ShareRange}
use Rattle.fault.specs.declared.cause.Fault.{Fault}
use Rattle.given.specs.Kept.{kept}
use Rattle.shelf.specs.Sum.{sum}
use Rattle.network.specs.Grid.{Grid, least_share, most_share}
use Rattle.network.specs.declared.shares.Shares.{Shares}
use Rattle.network.specs.declared.table.TableNetwork.{TableNetwork}

-- the network of rows of shares, one row a line
abbrev pub grid_of : List (List ℤ) → Grid
grid_of rows = record { lines = length rows; share = λ k b. slice_index_or (slice_index_or rows k []) b (pos 0) }

-- every share is from −1,000 to 1,000
abbrev pub ranged : List ℤ → Bool
ranged shares = list_all (λ s. int_le least_share s && int_le s most_share) shares

-- the first line with a share out of range, where the lines are numbered from k
unfoldable pub range_fault : ℕ → List (List ℤ) → Option Fault
range_fault k [] = None
range_fault k (row ∷ rows) = cond (ranged row) (range_fault (suc k) rows) (Some (record { cause = ShareRange; place = k }))

abbrev pub line_count_fault : List (List ℤ) → Option Fault
line_count_fault rows = cond (nat_le (length rows) 32) None (Some (record { cause = LineCount; place = 0 }))

-- the fault of rows of shares, or none
abbrev pub network_fault : List (List ℤ) → Option Fault
network_fault rows = or_else (line_count_fault rows) (range_fault 0 rows)

abbrev pub share_of : Shares → ℕ → ℤ
share_of s b = slice_index_or s.at b (pos 0)

-- the flow of a line from its first n buses
abbrev pub line_flow : Shares → (ℕ → ℤ) → ℕ → ℤ
line_flow s injection n = sum n (λ b. share_of s b *ℤ injection b)

-- lines of shares as a network
abbrev pub tabled : List Shares → Grid
tabled lines = grid_of (map (λ s. s.at) lines)

-- the meaning of a table network
abbrev pub meaning_of : TableNetwork → Grid
meaning_of t = tabled (kept t.rows.count t.rows.items)
