use Rattle.std.proofs.Common.{◌≡◌, map, drop, take}
use Rattle.given.specs.Kept.{kept}
use Rattle.network.specs.Table.{range_fault}
use Rattle.network.proofs.loading.table_of.Given as goal

-- what is left decides, and the lines so far stand in the table
abbrev pub invariant-loop-place : goal.invariant-loop-place
invariant-loop-place l =
    (range_fault 0 l.rows ≡ range_fault l.place (drop l.place l.rows))
    × (l.table.count ≡ l.place)
    × (map (λ s. s.at) (kept l.table.count l.table.items) ≡ take l.place l.rows)
