use Rattle.std.proofs.Common.{◌≡◌, ℕ, ◌+◌, ◌<◌, ◌≤◌, cond, leb, List, length, get_or, drop, sym, ◌∙◌, arith, w32, SFits, rules}
use Rattle.std.proofs.lemmas.List.{at_drop_more, at_drop_all}
use Rattle.std.proofs.lemmas.Int.{to_z-of_z}
use Rattle.std.proofs.lemmas.Bool.{le-leb, lt-leb, cond-true, cond-false}
use Rattle.block.specs.Blocks.{no_block, price_from}
use Rattle.block.specs.declared.row.Block.{Block}
use Rattle.block.proofs.blocks.block_price.Goals as goal

module _ (m : ℕ) (bs : List Block) (i q : ℕ) (h : i < length bs) where
  ahead : price_from m (drop i bs) q ≡ cond (leb q (m + (get_or bs i no_block).size)) (get_or bs i no_block).price (price_from (m + (get_or bs i no_block).size) (drop (i + 1) bs) q)
  unfolding price_from
  ahead = at_drop_more (λ r. price_from m r q) bs i no_block h

  here : q ≤ m + (get_or bs i no_block).size → price_from m (drop i bs) q ≡ (get_or bs i no_block).price
  here l = ahead ∙ cond-true _ _ _ (le-leb _ _ l)

  further : m + (get_or bs i no_block).size < q → price_from m (drop i bs) q ≡ price_from (m + (get_or bs i no_block).size) (drop (i + 1) bs) q
  further l = ahead ∙ cond-false _ _ _ (lt-leb _ _ l)

pub returns-then-level-end : goal.returns-then-level-end
returns-then-level-end c =
    let f : SFits w32 (get_or c.args.blocks.now c.loop-block.block-index no_block).price = search rules in
    to_z-of_z w32 _ f ∙ sym (c.loop-block.invariant.0 ∙ here c.loop-block.end _ c.loop-block.block-index c.args.level c.loop-block-test.true c.if-level-end.true)

pub loop-block-preserved : goal.loop-block-preserved
loop-block-preserved c =
    (c.loop-block.invariant.0 ∙ further c.loop-block.end _ c.loop-block.block-index c.args.level c.loop-block-test.true c.if-level-end.false, omega arith)

pub returns : goal.returns
unfolding price_from
returns c =
    sym (c.loop-block.invariant.0 ∙ at_drop_all (λ r. price_from c.loop-block.end r c.args.level) _ c.loop-block.block-index c.loop-block-test.false)
