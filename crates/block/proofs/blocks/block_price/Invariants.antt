use Rattle.std.proofs.Common.{◌≡◌, ◌≤◌, drop}
use Rattle.block.specs.Blocks.{block_price, price_from}
use Rattle.block.proofs.blocks.block_price.Given as goal

-- the level lies above the blocks so far, and what is left decides
abbrev pub invariant-loop-block : goal.invariant-loop-block
invariant-loop-block l = (block_price l.blocks l.level ≡ price_from l.end (drop l.block-index l.blocks) l.level) × (l.end ≤ l.level)
