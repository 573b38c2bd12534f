use Rattle.std.proofs.Common.{◌≡◌, ◌*◌, ◌≤◌, drop}
use Rattle.curves.specs.Steps.{ends_at}
use Rattle.curves.proofs.steps.ends_at.Given as goal

-- what is left decides, past the blocks before it
abbrev pub invariant-loop-block : goal.invariant-loop-block
invariant-loop-block l =
    (l.end ≤ 65535 * l.block-index)
    × (ends_at 0 l.blocks l.level ≡ ends_at l.end (drop l.block-index l.blocks) l.level)
