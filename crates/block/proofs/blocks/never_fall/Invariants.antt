use Rattle.std.proofs.Common.{◌≡◌, drop}
use Rattle.block.specs.Rules.{prices_from}
use Rattle.block.proofs.blocks.never_fall.Given as goal

-- what is left decides
abbrev pub invariant-loop-block : goal.invariant-loop-block
invariant-loop-block l = prices_from l.floor l.top l.blocks ≡ prices_from l.least l.top (drop l.block-index l.blocks)
