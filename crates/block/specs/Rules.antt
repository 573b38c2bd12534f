-- What a row of blocks can break, one rule after another.
use Rattle.std.specs.Prelude.{◌≡◌, ℕ, Bool, true, false, not, ◌&&◌, List, [], ◌∷◌, map, ℤ, Option, int_le, nat_le, nat_lt}
use Rattle.book.specs.Meaning.{least_price, most_price}
use Rattle.block.specs.Blocks.{blocks_of, high_of}
use Rattle.block.specs.declared.row.Block.{Block}
use Rattle.block.specs.declared.row.BlockRow.{BlockRow}
use Rattle.block.specs.declared.rule.Rule.{Rule}
use Rattle.block.specs.declared.rule.Rule.TheVariants.{Bus, Count, Sizes, Prices}
use Rattle.std.specs.List.{list_all}
use Rattle.fault.specs.First.{first_of}
use Rattle.fault.specs.Rules.{first_broken, too_many}
use Rattle.fault.specs.declared.cause.Cause.{Cause}
use Rattle.fault.specs.declared.cause.Fault.{Fault}
use Rattle.fault.specs.declared.cause.Cause.TheVariants.{RowCount, BusNumber, PointCount, CurveLevels, CurvePrices}

-- no size is 0
unfoldable pub sized : List Block → Bool
sized bs = list_all (λ b. nat_lt 0 b.size) bs

-- prices from `least` to `most` that never fall
unfoldable pub prices_from : ℤ → ℤ → List Block → Bool
prices_from least most [] = true
prices_from least most (b ∷ bs) = int_le least b.price && int_le b.price most && prices_from b.price most bs

-- which rows break which rule
abbrev pub broken : Rule → BlockRow → Bool
broken Bus r = nat_lt 63 r.bus
broken Count r = nat_lt 10 r.blocks.count
broken Sizes r = not (sized (blocks_of r) && nat_le (high_of r) 20000)
broken Prices r = not (prices_from least_price most_price (blocks_of r))

-- a row that breaks no rule
abbrev pub Kept : BlockRow → Type 0
Kept r = (k : Rule) → broken k r ≡ false

abbrev pub cause_of : Rule → Cause
cause_of Bus = BusNumber
cause_of Count = PointCount
cause_of Sizes = CurveLevels
cause_of Prices = CurvePrices

-- the first row that breaks a rule, where the rows are numbered from i
abbrev pub fault_from : Rule → ℕ → List BlockRow → Option Fault
fault_from k i rows = first_broken (broken k) (cause_of k) i rows

abbrev pub row_count_fault : List BlockRow → Option Fault
row_count_fault rows = too_many 64 RowCount rows

-- the rules in the order of their numbers
abbrev pub rules : List Rule
rules = Bus ∷ Count ∷ Sizes ∷ Prices ∷ []

-- the fault of rows, by number and then by row, or none
abbrev pub blocks_fault : List BlockRow → Option Fault
blocks_fault rows = first_of (row_count_fault rows ∷ map (λ k. fault_from k 0 rows) rules)
