use Rattle.std.proofs.Common.{◌≡◌, ℕ, ◌+◌, ◌<◌, ◌&&◌, List, length, get_or, drop, ℤ, arith}
use lib.Signed.{le_z}
use Rattle.std.proofs.lemmas.List.{at_drop_more, at_drop_all}
use Rattle.std.proofs.lemmas.Int.{ints, to_z-of_z}
use Rattle.block.specs.Blocks.{no_block}
use Rattle.block.specs.Rules.{prices_from}
use Rattle.block.specs.declared.row.Block.{Block}
use Rattle.block.proofs.blocks.never_fall.Goals as goal
use Rattle.block.proofs.blocks.never_fall.Goals.{then-block-least-via-then-block-least, then-block-least-via-else-block-least+then-block-top}

ahead : (a b : ℤ) (bs : List Block) (i : ℕ) → i < length bs → prices_from a b (drop i bs) ≡ (le_z a (get_or bs i no_block).price && le_z (get_or bs i no_block).price b && prices_from (get_or bs i no_block).price b (drop (i + 1) bs))
unfolding prices_from
ahead a b bs i h = at_drop_more (prices_from a b) bs i no_block h

pub returns-then-block-least : goal.returns-then-block-least
returns-then-block-least c =
    let h = ahead c.loop-block.least c.args.top c.args.blocks.now c.loop-block.block-index (omega arith) in
    elim c.then-block-least.branch [
      | then-block-least-via-then-block-least w ↦ grind (arith, ints, to_z-of_z)
      | then-block-least-via-else-block-least+then-block-top w ↦ grind (arith, ints, to_z-of_z)
    ]

pub loop-block-preserved : goal.loop-block-preserved
loop-block-preserved c =
    let h = ahead c.loop-block.least c.args.top c.args.blocks.now c.loop-block.block-index (omega arith) in
    grind (arith, ints, to_z-of_z)

pub returns : goal.returns
unfolding prices_from
returns c =
    let h = at_drop_all (prices_from c.loop-block.least c.args.top) c.args.blocks.now c.loop-block.block-index (omega arith) in
    grind (arith, to_z-of_z)
