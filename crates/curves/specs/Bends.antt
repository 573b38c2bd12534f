-- Where a curve has points and jumps.
use Rattle.std.specs.Prelude.{ℕ, ◌+◌, Bool, false, not, ◌&&◌, ◌||◌, List, [], ◌∷◌, ◌==◌, int_le}
use Rattle.std.specs.List.{list_any}
use Rattle.rows.specs.declared.class.Class.{Class}
use Rattle.rows.specs.declared.class.Class.TheVariants.{Thermal, Renewable, Committed, Load}
use Rattle.rows.specs.declared.row.Point.{Point}
use Rattle.curve.specs.Complete.{last_of}

-- whether a point stands at the place `at`, where each stands `to` above its level
abbrev pub point_at : ℕ → ℕ → List Point → Bool
point_at at to ps = list_any (λ p. at == p.level + to) ps

-- a load's curve is shifted so that its last point stands at HSL: level q + from meets m + to
abbrev pub from_of : Class → List Point → ℕ
from_of Thermal ps = 0
from_of Renewable ps = 0
from_of Committed ps = 0
from_of Load ps = (last_of ps).level

abbrev pub to_of : Class → ℕ → ℕ
to_of Thermal hsl = 0
to_of Renewable hsl = 0
to_of Committed hsl = 0
to_of Load hsl = hsl

-- whether the price of a curve jumps after the place `at`: two points of different prices stand
-- there, one after the other
abbrev pub jump_over : ℕ → ℕ → Point → Point → Bool
jump_over at to a b = at == a.level + to && a.level == b.level && not (int_le a.price b.price && int_le b.price a.price)

unfoldable pub jump_past : ℕ → ℕ → Point → List Point → Bool
jump_past at to a [] = false
jump_past at to a (b ∷ ps) = jump_over at to a b || jump_past at to b ps

abbrev pub jump_at : ℕ → ℕ → List Point → Bool
jump_at at to [] = false
jump_at at to (a ∷ ps) = jump_past at to a ps
