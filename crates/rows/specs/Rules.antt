-- What a row can break, one rule after another.
use Rattle.std.specs.Prelude.{◌≡◌, ℕ, Bool, true, false, cond, not, ◌&&◌, ◌||◌, List, [], ◌∷◌, map, ℤ, pos, negsuc, is_err, Some, None, Option, ◌==◌, int_le, nat_le, nat_lt}
use Rattle.rows.specs.Classes.{class_of}
use Rattle.rows.specs.declared.row.Point.{Point}
use Rattle.rows.specs.declared.row.Row.{Row}
use Rattle.rows.specs.declared.rule.Rule.{Rule}
use Rattle.rows.specs.declared.rule.Rule.TheVariants.{Letter, Bus, Limits, Count, Levels, Prices, Reading}
use Rattle.given.specs.Kept.{kept}
use Rattle.fault.specs.First.{first_of}
use Rattle.fault.specs.Rules.{fault, first_broken, too_many}
use Rattle.fault.specs.declared.cause.Cause.{Cause}
use Rattle.fault.specs.declared.cause.Fault.{Fault}
use Rattle.fault.specs.declared.cause.Cause.TheVariants.{ClassLetter, BusNumber, UnitLimits, PointCount, CurveLevels, CurvePrices, Reading as ReadingRange, OfferCap as CapRange, RowCount}

-- the submitted points of a row
abbrev pub points_of : Row → List Point
points_of r = kept r.points.count r.points.items

abbrev pub is_thermal : Row → Bool
is_thermal r = r.letter == 78

abbrev pub is_load : Row → Bool
is_load r = r.letter == 76

-- the lowest price, −25,000 cents
abbrev pub floor_price : ℤ
floor_price = negsuc 24999

-- LSL ≤ LDL ≤ HDL ≤ HSL ≤ 20,000
abbrev pub limits_nest : Row → Bool
limits_nest r = nat_le r.lsl r.ldl && nat_le r.ldl r.hdl && nat_le r.hdl r.hsl && nat_le r.hsl 20000

-- levels that never fall, from m on, and do not pass 20,000
unfoldable pub levels_from : ℕ → List Point → Bool
levels_from m [] = true
levels_from m (p ∷ ps) = nat_le m p.level && nat_le p.level 20000 && levels_from p.level ps

-- prices from `least` to `most` that never rise (a load's) or never fall (a generator's)
unfoldable pub in_order : Bool → ℤ → ℤ → List Point → Bool
in_order load least most [] = true
in_order load least most (p ∷ ps) =
    int_le least p.price && int_le p.price most
    && cond load (in_order load least p.price ps) (in_order load p.price most ps)

-- which rows break which rule, at the offer cap w
abbrev pub broken : ℕ → Rule → Row → Bool
broken w Letter r = is_err (class_of r.letter)
broken w Bus r = nat_lt 63 r.bus
broken w Limits r = not (limits_nest r)
broken w Count r = nat_lt 10 r.points.count || (is_load r && r.points.count == 0)
broken w Levels r = not (levels_from 0 (points_of r))
broken w Prices r = not (in_order (is_load r) floor_price (pos w) (points_of r))
broken w Reading r =
    (is_thermal r && r.points.count == 0 && not (nat_le r.lsl r.reading && nat_le r.reading r.hsl))
    || (is_load r && nat_lt 20000 r.reading)

-- a row that breaks no rule
abbrev pub Lawful : ℕ → Row → Type 0
Lawful w r = (k : Rule) → broken w k r ≡ false

abbrev pub cause_of : Rule → Cause
cause_of Letter = ClassLetter
cause_of Bus = BusNumber
cause_of Limits = UnitLimits
cause_of Count = PointCount
cause_of Levels = CurveLevels
cause_of Prices = CurvePrices
cause_of Reading = ReadingRange

-- the first row that breaks a rule, where the rows are numbered from i
abbrev pub fault_from : ℕ → Rule → ℕ → List Row → Option Fault
fault_from w k i rows = first_broken (broken w k) (cause_of k) i rows

abbrev pub cap_fault : ℕ → Option Fault
cap_fault w = cond (nat_le 1 w && nat_le w 1000000) None (Some (fault CapRange 0))

abbrev pub row_count_fault : List Row → Option Fault
row_count_fault rows = too_many 64 RowCount rows

-- the rules in the order of their numbers
abbrev pub rules : List Rule
rules = Letter ∷ Bus ∷ Limits ∷ Count ∷ Levels ∷ Prices ∷ Reading ∷ []

-- the fault of a cap and rows, by number and then by row, or none
abbrev pub rows_fault : ℕ → List Row → Option Fault
rows_fault w rows = first_of (cap_fault w ∷ row_count_fault rows ∷ map (λ k. fault_from w k 0 rows) rules)
