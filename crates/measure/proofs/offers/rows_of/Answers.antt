use Rattle.std.proofs.Common.{rules}
use Rattle.market.proofs.Filled.{filled}
use Rattle.measure.specs.Widest.{row_of}
use Rattle.measure.proofs.Listed.{is_listed}
use Rattle.measure.proofs.offers.rows_of.Goals as goal

pub returns : goal.returns
returns c =
    let made = c.from_fn.ensures.items in
    is_listed (row_of c.args.prices.now) c.from_fn.result 64 made.long (λ k d h. filled _ (row_of c.args.prices.now) _ (λ i x q r. search rules) _ 64 k d made h)
