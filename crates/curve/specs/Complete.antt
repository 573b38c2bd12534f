-- The completed offer curve of a row, by its class.
use Rattle.std.specs.Prelude.{◌≡◌, ℕ, ◌+◌, ◌-◌, ◌≤◌, min, max, Bool, true, false, cond, List, [], ◌∷◌, ◌++◌, length, ℤ, pos, negsuc, ◌-ℤ◌, ◌≤ℤ◌, Ok, Err, Result, nat_lt, slice_index_or}
use Rattle.std.specs.Int.{int_min, int_max}
use Rattle.fault.specs.declared.cause.Fault.{Fault}
use Rattle.rows.specs.Classes.{class_of}
use Rattle.rows.specs.Rules.{points_of, is_load, floor_price}
use Rattle.rows.specs.declared.class.Class.{Class}
use Rattle.rows.specs.declared.class.Class.TheVariants.{Thermal, Renewable, Committed, Load}
use Rattle.rows.specs.declared.row.Point.{Point}
use Rattle.rows.specs.declared.row.Row.{Row}
use Rattle.curve.specs.Line.{line_price}
use Rattle.curve.specs.Listed.{listed}
use Rattle.curve.specs.declared.curve.Curve.{Curve}

abbrev pub at : ℕ → ℤ → Point
at m c = record { level = m; price = c }

-- one cent above the lowest price
abbrev pub near_floor : ℤ
near_floor = negsuc 24998

abbrev pub last_of : List Point → Point
last_of ps = slice_index_or ps (length ps - 1) (at 0 (pos 0))

-- before submitted points that begin at p: (LSL, −25,000) if LSL lies below it, then ten tenths
-- before it the lesser of −24,999 and its price, if that is above LSL
abbrev pub leading : ℕ → Point → List Point
leading lsl p =
    cond (nat_lt lsl p.level) (at lsl floor_price ∷ []) []
    ++ cond (nat_lt (lsl + 10) p.level) (at (p.level - 10) (int_min near_floor p.price) ∷ []) []

-- after submitted points that end at z: its price up to HSL, if that lies above it
abbrev pub trailing : ℕ → Point → List Point
trailing hsl z = cond (nat_lt z.level hsl) (at hsl z.price ∷ []) []

-- around an Output Schedule S: cheap up to S, and the offer cap w from ten tenths above it
abbrev pub scheduled : ℕ → Row → List Point
scheduled w r =
    at r.lsl floor_price ∷ at r.reading near_floor
    ∷ at (min (r.reading + 10) r.hsl) (pos w -ℤ pos 1) ∷ at r.hsl (pos w) ∷ []

-- a renewable without points: cheap but for its last ten tenths
abbrev pub renewable : Row → List Point
renewable r =
    at r.lsl floor_price ∷ at (max (r.hsl - 10) r.lsl) near_floor ∷ at r.hsl (pos 150000) ∷ []

-- submitted points with their ends, or the proxy where none were submitted
abbrev pub drawn : Row → List Point → List Point → List Point
drawn r proxy [] = proxy
drawn r proxy (p ∷ ps) = leading r.lsl p ++ (p ∷ ps) ++ trailing r.hsl (last_of (p ∷ ps))

abbrev pub completed : Class → ℕ → Row → List Point
completed Thermal w r = drawn r (scheduled w r) (points_of r)
completed Renewable w r = drawn r (renewable r) (points_of r)
completed Committed w r = points_of r
completed Load w r = points_of r

-- the price of a completed list at level q: a committed unit's is at least 25,000, also where it
-- has no points; a load's bid is shifted so that it ends at HSL
abbrev pub curve_price : Class → ℕ → List Point → ℕ → ℤ
curve_price Thermal hsl ps q = line_price ps q
curve_price Renewable hsl ps q = line_price ps q
curve_price Committed hsl ps q = int_max (pos 25000) (line_price ps q)
curve_price Load hsl ps q = line_price ps (q + (last_of ps).level - hsl)

abbrev pub price_as : Result Class Fault → ℕ → Row → ℕ → ℤ
price_as (Ok c) w r q = curve_price c r.hsl (completed c w r) q
price_as (Err f) w r q = pos 0

-- the price of a row at level q under the offer cap w; 0 where its letter names no class
abbrev pub row_price : ℕ → Row → ℕ → ℤ
row_price w r q = price_as (class_of r.letter) w r q

-- the price that a completed curve has at level q
abbrev pub price_on : Curve → ℕ → ℤ
price_on c q = curve_price c.class c.hsl (listed c.points) q

-- a curve completes a row under the offer cap w: it has its class, its HSL and its completed points
pub record Completes (w : ℕ) (r : Row) (c : Curve) : Type 0 where
  pub class_is : class_of r.letter ≡ Ok c.class
  pub hsl_is : c.hsl ≡ r.hsl
  pub points_are : listed c.points ≡ completed c.class w r

-- a price never falls as the level rises, or never rises on a load
abbrev pub Moves : Bool → ℤ → ℤ → Type 0
Moves true a b = b ≤ℤ a
Moves false a b = a ≤ℤ b

-- the laws of a lawful row's curve, at every level
pub record Sound (w : ℕ) (r : Row) : Type 0 where
  pub least : (q : ℕ) → floor_price ≤ℤ row_price w r q
  pub most : (q : ℕ) → row_price w r q ≤ℤ pos 1000000
  pub moves : (p q : ℕ) → p ≤ q → Moves (is_load r) (row_price w r p) (row_price w r q)
