use Rattle.std.proofs.Common.{◌≡◌, ℕ, ◌+◌, ◌<◌, ◌||◌, eqb, List, length, get_or, drop, sym, ◌∙◌, arith}
use Rattle.std.proofs.lemmas.List.{at_drop_more, at_drop_all}
use Rattle.std.proofs.lemmas.Bool.Decides.{nat_tests}
use Rattle.block.specs.Blocks.{no_block}
use Rattle.block.specs.declared.row.Block.{Block}
use Rattle.curves.specs.Steps.{ends_at}
use Rattle.curves.proofs.steps.ends_at.Goals as goal

ahead : (m q : ℕ) (bs : List Block) (i : ℕ) → i < length bs → ends_at m (drop i bs) q ≡ (eqb (m + (get_or bs i no_block).size) q || ends_at (m + (get_or bs i no_block).size) (drop (i + 1) bs) q)
unfolding ends_at
ahead m q bs i h = at_drop_more (λ r. ends_at m r q) bs i no_block h

pub returns-then-end-from : goal.returns-then-end-from
returns-then-end-from c =
    let h = ahead c.loop-block.end c.args.level c.args.blocks.now c.loop-block.block-index (omega arith) in
    grind (arith, nat_tests)

pub loop-block-preserved : goal.loop-block-preserved
loop-block-preserved c =
    let h = ahead c.loop-block.end c.args.level c.args.blocks.now c.loop-block.block-index (omega arith) in
    (omega arith, grind (arith, nat_tests))

pub returns : goal.returns
unfolding ends_at
returns c =
    sym (c.loop-block.invariant.1 ∙ at_drop_all (λ r. ends_at c.loop-block.end r c.args.level) c.args.blocks.now c.loop-block.block-index (omega arith))
