-- A unit of the house book and the row that it comes from.
use Rattle.std.specs.Prelude.{◌≡◌, ℕ, cond, ℤ, pos, Ok, Err, Result}
use Rattle.fault.specs.declared.cause.Fault.{Fault}
use Rattle.book.specs.Meaning.{generator, load}
use Rattle.book.specs.Sides.{sign_of}
use Rattle.curve.specs.Complete.{row_price, price_on}
use Rattle.rows.specs.Classes.{class_of}
use Rattle.rows.specs.Rules.{is_load}
use Rattle.rows.specs.declared.class.Class.{Class}
use Rattle.rows.specs.declared.class.Class.TheVariants.{Thermal, Renewable, Committed, Load}
use Rattle.rows.specs.declared.row.Row.{Row}
use Rattle.house.specs.declared.unit.Unit.{Unit}

-- the side of a class
abbrev pub side_of : Class → ℤ
side_of Thermal = generator
side_of Renewable = generator
side_of Committed = generator
side_of Load = load

abbrev pub side_as : Result Class Fault → ℤ
side_as (Ok c) = side_of c
side_as (Err f) = pos 0

-- the side of a row: 0 where its letter names no class
abbrev pub row_side : Row → ℤ
row_side r = side_as (class_of r.letter)

-- only a load's reading is its own: a generator's is 0, also where its row holds an Output Schedule
abbrev pub row_reading : Row → ℕ
row_reading r = cond (is_load r) r.reading 0

-- a unit stands for a row under the offer cap w
pub record Stands (w : ℕ) (r : Row) (u : Unit) : Type 0 where
  pub bus_is : u.bus ≡ r.bus
  pub side_is : sign_of u.side ≡ row_side r
  pub low_is : u.low ≡ r.ldl
  pub high_is : u.high ≡ r.hdl
  pub reading_is : u.reading ≡ row_reading r
  pub price_is : (q : ℕ) → price_on u.curve q ≡ row_price w r q
