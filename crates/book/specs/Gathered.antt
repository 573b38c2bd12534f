-- Offer books that are tables of participants, one after another.
use Rattle.std.specs.Prelude.{◌≡◌, ℕ, ◌≤◌, cond, ◌&&◌, ℤ, pos, ◌*ℤ◌, ◌≤ℤ◌, nat_le, nat_lt}
use Rattle.book.specs.Meaning.{Book, generator, least_price, most_price}

-- one participant, with a price that may go on past its limits
pub record Member : Type 0 where
  pub bus : ℕ
  pub side : ℤ
  pub low : ℕ
  pub high : ℕ
  pub reading : ℕ
  pub price : ℕ → ℤ

-- the price p of a level q that lies above low and up to high, else 0
abbrev pub within : ℕ → ℕ → ℕ → ℤ → ℤ
within low high q p = cond (nat_lt low q && nat_le q high) p (pos 0)

-- the first n members as an offer book
abbrev pub gathered : ℕ → (ℕ → Member) → Book
gathered n ms =
    record {
      count = n;
      bus = λ i. cond (nat_lt i n) (ms i).bus 0;
      side = λ i. cond (nat_lt i n) (ms i).side (pos 0);
      low = λ i. cond (nat_lt i n) (ms i).low 0;
      high = λ i. cond (nat_lt i n) (ms i).high 0;
      reading = λ i. cond (nat_lt i n) (ms i).reading 0;
      price = λ i q. cond (nat_lt i n) (within (ms i).low (ms i).high q ((ms i).price q)) (pos 0);
    }

-- what each member owes, so that the book is lawful; a price times the side never falls
pub record Fair (m : Member) : Type 0 where
  pub there : m.bus ≤ 63
  pub sided : (m.side *ℤ m.side) ≡ pos 1
  pub limits : m.low ≤ m.high
  pub highest : m.high ≤ 20000
  pub readings : m.reading ≤ 20000
  pub unread : m.side ≡ generator → m.reading ≡ 0
  pub least : (q : ℕ) → least_price ≤ℤ m.price q
  pub most : (q : ℕ) → m.price q ≤ℤ most_price
  pub moves : (p q : ℕ) → p ≤ q → (m.side *ℤ m.price p) ≤ℤ (m.side *ℤ m.price q)
