use Rattle.std.proofs.Common.{◌≡◌, ℕ, ◌<◌, length, get_or}
use Rattle.block.specs.Blocks.{blank}
use Rattle.block.specs.Offers.{nobody}
use Rattle.block.proofs.load.stacks_of.Given as goal

-- the rows so far stand in their places
abbrev pub invariant-loop-row : goal.invariant-loop-row
invariant-loop-row l = (l.stacks.count ≡ l.row-index) × (length l.stacks.items ≡ 64) × ((k : ℕ) → k < l.row-index → (get_or l.stacks.items k nobody).row ≡ get_or l.rows k blank)
