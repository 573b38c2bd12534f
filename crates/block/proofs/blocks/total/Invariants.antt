use Rattle.std.proofs.Common.{◌≡◌, ◌+◌, ◌*◌, ◌≤◌, drop}
use Rattle.block.specs.Blocks.{sizes}
use Rattle.block.proofs.blocks.total.Given as goal

-- the sum so far and what is left make the whole
abbrev pub invariant-loop-block : goal.invariant-loop-block
invariant-loop-block l = (l.sum + sizes (drop l.block-index l.blocks) ≡ sizes l.blocks) × (l.sum ≤ 65535 * l.block-index)
