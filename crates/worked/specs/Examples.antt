-- The worked examples of the documents, each as an instance of the definitions.
use Rattle.std.specs.Prelude.{ℕ, false, List, [], ◌∷◌, ◌≡◌, ℤ, pos, negsuc, length, get_or}
use Rattle.book.specs.Meaning.{Book}
use Rattle.curve.specs.Complete.{at, row_price}
use Rattle.house.specs.House.{booked}
use Rattle.market.specs.Market.{Step, Prices, worth, gap}
use Rattle.network.specs.Grid.{Grid}
use Rattle.network.specs.Table.{grid_of}
use Rattle.rows.specs.declared.row.Point.{Point}
use Rattle.rows.specs.declared.row.Row.{Row}

pub data Example : Type 0 where
  -- under the offer cap w the row r has the price c at level q
  priced : (w : ℕ) (r : Row) (q : ℕ) (c : ℤ) → Example
  -- the dispatch x is worth v in the offer book m
  valued : (m : Book) (x : ℕ → ℕ) (v : ℤ) → Example
  -- the dispatch x has the gap v in the offer book m and the network g, for the step s at the prices p
  gapped : (m : Book) (g : Grid) (s : Step) (p : Prices) (x : ℕ → ℕ) (v : ℤ) → Example

abbrev pub Holds : Example → Type 0
Holds (priced w r q c) = row_price w r q ≡ c
Holds (valued m x v) = worth m x ≡ v
Holds (gapped m g s p x v) = gap m g s p x ≡ v

abbrev pub AllHold : List Example → Type 0
AllHold [] = Unit {0}
AllHold (x ∷ xs) = Holds x × AllHold xs

-- a row at bus 0 that may be dispatched from LSL to HSL
abbrev row : ℕ → ℕ → ℕ → ℕ → List Point → Row
row letter lsl hsl reading ps =
    record {
      letter = letter;
      bus = 0;
      lsl = lsl;
      ldl = lsl;
      hdl = hsl;
      hsl = hsl;
      reading = reading;
      points = record { count = length ps; items = ps };
    }

-- two units: a thermal one from 100 to 300 at bus 0, and a committed one from 0 to 200 at bus 1
abbrev pub two_units : Book
two_units =
    booked 500000
    (row 78 100 300 0 (at 100 (pos 2000) ∷ at 300 (pos 4000) ∷ [])
    ∷ record { letter = 82; bus = 1; lsl = 0; ldl = 0; hdl = 200; hsl = 200; reading = 0; points = record { count = 0; items = [] } }
    ∷ [])

-- one line, in full share of bus 0
abbrev pub one_line : Grid
one_line = grid_of ((pos 1000 ∷ []) ∷ [])

-- the first step: requirement 250, and the line, which is not competitive, is not observed
abbrev pub first_step : Step
first_step = record { requirement = pos 250; limit = λ _. pos 200; observed = λ _. false }

abbrev pub at_system : ℤ → Prices
at_system y = record { system = y; shadow = λ _. pos 0 }

abbrev pub base : ℕ → ℕ → ℕ → ℕ
base a b i = get_or (a ∷ b ∷ []) i 0

abbrev pub examples : List Example
examples =
    -- a thermal unit from 100 to 300 with the Output Schedule 200
    priced 500000 (row 78 100 300 200 []) 200 (negsuc 24998)
    ∷ priced 500000 (row 78 100 300 200 []) 201 (pos 27500)
    -- the same unit with points
    ∷ priced 500000 (row 78 100 300 0 (at 150 (pos 2000) ∷ at 250 (pos 3000) ∷ [])) 145 (negsuc 11499)
    -- a renewable without points
    ∷ priced 500000 (row 73 0 500 0 []) 491 (negsuc 7499)
    -- a committed unit: the floor of 25,000 comes after the line
    ∷ priced 500000 (row 82 0 300 0 (at 100 (pos 20000) ∷ at 200 (pos 40000) ∷ [])) 150 (pos 30000)
    -- a load with MPC 300, whose bid ends at 150
    ∷ priced 500000 (row 76 0 300 0 (at 50 (pos 8000) ∷ at 150 (pos 4000) ∷ [])) 201 (pos 7960)
    -- the two units at 250 and 0, and with a price or a base point a little off
    ∷ valued two_units (base 250 0) (negsuc 413249)
    ∷ gapped two_units one_line first_step (at_system (pos 3500)) (base 250 0) (pos 0)
    ∷ gapped two_units one_line first_step (at_system (pos 3520)) (base 250 0) (pos 10000)
    ∷ gapped two_units one_line first_step (at_system (pos 3500)) (base 249 1) (pos 21500000)
    ∷ []
