use Rattle.std.proofs.Common.{◌≡◌, ℕ, ◌+◌, ◌<◌, List, length, get_or, drop, arith, rules}
use Rattle.std.proofs.lemmas.List.{at_drop_more, at_drop_all}
use Rattle.block.specs.Blocks.{no_block, sizes}
use Rattle.block.specs.declared.row.Block.{Block}
use Rattle.block.proofs.blocks.total.Goals as goal

ahead : (bs : List Block) (i : ℕ) → i < length bs → sizes (drop i bs) ≡ (get_or bs i no_block).size + sizes (drop (i + 1) bs)
unfolding sizes
ahead bs i h = at_drop_more sizes bs i no_block h

pub loop-block-preserved : goal.loop-block-preserved
loop-block-preserved c =
    let h = ahead c.args.blocks.now c.loop-block.block-index c.loop-block-test.true in
    let fits : (get_or c.args.blocks.now c.loop-block.block-index no_block).size < 65536 = search rules in
    (omega arith, omega arith)

pub returns : goal.returns
unfolding sizes
returns c =
    let h = at_drop_all sizes c.args.blocks.now c.loop-block.block-index c.loop-block-test.false in
    omega arith
