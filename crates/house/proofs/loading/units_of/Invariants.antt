use Rattle.std.proofs.Common.{◌≡◌, ℕ, ◌<◌, length, get_or}
use Rattle.house.specs.House.{blank, nobody}
use Rattle.house.specs.Unit.{Stands}
use Rattle.house.proofs.loading.units_of.Given as goal

abbrev pub invariant-loop-row : goal.invariant-loop-row
invariant-loop-row l =
    (l.units.count ≡ l.row-index) × (length l.units.items ≡ 64)
    × ((k : ℕ) → k < l.row-index → Stands l.offer_cap.cents (get_or l.rows k blank) (get_or l.units.items k nobody))
