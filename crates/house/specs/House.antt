-- What a house book means, and what rows mean as one.
use Rattle.std.specs.Prelude.{ℕ, List, [], length, get_or, replicate, ℤ, pos, slice_index_or, refl}
use Rattle.std.proofs.Common.{lit≤}
use Rattle.book.specs.Gathered.{Member, within, gathered}
use Rattle.book.specs.Meaning.{Book}
use Rattle.book.specs.Sides.{sign_of}
use Rattle.book.specs.declared.side.Side.TheVariants.{Generator}
use Rattle.curve.specs.Complete.{at, row_price, price_on}
use Rattle.curve.specs.Line.{line_price}
use Rattle.rows.specs.declared.class.Class.TheVariants.{Thermal}
use Rattle.rows.specs.declared.row.Row.{Row}
use Rattle.house.specs.Unit.{row_side, row_reading}
use Rattle.house.specs.declared.house.HouseBook.{HouseBook}
use Rattle.house.specs.declared.unit.Unit.{Unit}

-- no row: all its numbers are 0, and it has no class
abbrev pub blank : Row
blank = record { letter = 0; bus = 0; lsl = 0; ldl = 0; hdl = 0; hsl = 0; reading = 0; points = record { count = 0; items = [] } }

-- the offer book of rows under the offer cap w
abbrev pub booked : ℕ → List Row → Book
booked w rows =
    record {
      count = length rows;
      bus = λ i. (get_or rows i blank).bus;
      side = λ i. row_side (slice_index_or rows i blank);
      low = λ i. (get_or rows i blank).ldl;
      high = λ i. (get_or rows i blank).hdl;
      reading = λ i. row_reading (slice_index_or rows i blank);
      price = λ i q. within (get_or rows i blank).ldl (get_or rows i blank).hdl q (row_price w (slice_index_or rows i blank) q);
    }

-- what stands past the last unit
pub nobody : Unit
unfolding line_price
nobody =
    record {
      bus = 0;
      side = Generator;
      low = 0;
      high = 0;
      reading = 0;
      curve = record { class = Thermal; hsl = 0; points = record { count = 0; items = replicate 13 (at 0 (pos 0)) } };
      there = lit≤ tt;
      limits = lit≤ tt;
      highest = lit≤ tt;
      readings = lit≤ tt;
      unread = λ _. refl;
      least = λ _. record { le = tt };
      most = λ _. record { le = tt };
      moves = λ _ _ _. record { le = tt };
    }

abbrev pub unit_price : Unit → ℕ → ℤ
unit_price u q = within u.low u.high q (price_on u.curve q)

abbrev pub member_of : Unit → Member
member_of u =
    record {
      bus = u.bus;
      side = sign_of u.side;
      low = u.low;
      high = u.high;
      reading = u.reading;
      price = price_on u.curve;
    }

-- the first n units of a table as an offer book
abbrev pub tabled : ℕ → List Unit → Book
tabled n us = gathered n (λ i. member_of (slice_index_or us i nobody))

-- the meaning of a house book
abbrev pub meaning_of : HouseBook → Book
meaning_of b = tabled b.units.count b.units.items
