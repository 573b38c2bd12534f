use Rattle.std.proofs.Common.{sym, subst}
use Rattle.book.specs.Meaning.{Book}
use Rattle.block.specs.Offers.{Blockwise}
use Rattle.block.proofs.Served.{same_book, blockwise}
use Rattle.block.proofs.offers.BlockBook.load.Goals as goal

pub returns : goal.returns
returns c =
    let same = same_book c.stacks_of.result.count c.stacks_of.result.items c.args.rows.now c.stacks_of.ensures.count c.stacks_of.ensures.same in
    record {
      value = (c.in_ok-check_rows.ensures.value, same);
      prices = subst (λ (m : Book). Blockwise c.args.rows.now m) (sym same) (blockwise c.args.rows.now);
    }
