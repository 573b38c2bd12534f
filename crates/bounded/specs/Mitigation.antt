-- How mitigation bounds the prices of generators, over any offer book.
use Rattle.std.specs.Prelude.{ℕ, ◌/◌, Bool, cond, ◌&&◌, ℤ, pos, ◌+ℤ◌, ◌≤ℤ◌, int_le, int_lt, nat_le, nat_lt, unsigned_abs}
use Rattle.std.specs.Int.{int_min, int_max}
use Rattle.book.specs.Meaning.{Book, least_price, most_price}

-- the terms of one participant
pub record Terms : Type 0 where
  pub floor : ℤ
  pub ceiling : ℤ
  pub adder : ℕ
  pub subject : Bool

-- floor from −25,000 to 1,000,000, cap from 0 to 1,000,000, adder up to a hundredth of the cap, rounded down
abbrev pub in_range : ℤ → ℤ → ℕ → Bool
in_range floor ceiling adder =
    int_le least_price floor && int_le floor most_price && int_le (pos 0) ceiling && int_le ceiling most_price
    && nat_le adder (unsigned_abs ceiling / 100)

-- F: the lesser of reference price and floor
abbrev pub floor_of : Terms → ℤ → ℤ
floor_of t reference = int_min reference t.floor

-- K: the greater of reference price plus adder and cap
abbrev pub ceiling_of : Terms → ℤ → ℤ
ceiling_of t reference = int_max (reference +ℤ pos t.adder) t.ceiling

-- a price that is above K is lowered to it, if the participant is subject to mitigation
abbrev pub lowered : Bool → ℤ → ℤ → ℤ
lowered subject k p = cond (subject && int_lt k p) k p

-- a price that is below F is raised to it
abbrev pub raised : ℤ → ℤ → ℤ
raised f p = cond (int_lt p f) f p

-- first lowered, then raised
abbrev pub mitigated : Terms → ℤ → ℤ → ℤ
mitigated t reference p = raised (floor_of t reference) (lowered t.subject (ceiling_of t reference) p)

-- what a layer does to the price of participant i: nothing where there are no reference prices
pub record Layer : Type 0 where
  pub terms : ℕ → Terms
  pub reference : ℕ → ℤ
  pub referenced : Bool

abbrev pub applied : Layer → ℕ → ℤ → ℤ
applied l i p = cond l.referenced (mitigated (l.terms i) (l.reference i) p) p

-- the participant is a generator, and the level is one at which it has a price
abbrev pub bites : Book → ℕ → ℕ → Bool
bites m i q = int_lt (pos 0) (m.side i) && nat_lt (m.low i) q && nat_le q (m.high i)

-- the book above: loads, and levels that are not there, pass unchanged
abbrev pub layered : Book → Layer → Book
layered m l =
    record {
      count = m.count;
      bus = m.bus;
      side = m.side;
      low = m.low;
      high = m.high;
      reading = m.reading;
      price = λ i q. cond (bites m i q) (applied l i (m.price i q)) (m.price i q);
    }

-- what the terms owe
pub record Measured (t : Terms) : Type 0 where
  pub floor_most : t.floor ≤ℤ most_price
  pub ceiling_least : least_price ≤ℤ t.ceiling
