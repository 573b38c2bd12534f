use Rattle.std.proofs.Common.{rules}
use Rattle.market.proofs.Filled.{filled}
use Rattle.measure.specs.Widest.{point_of}
use Rattle.measure.proofs.Listed.{is_listed}
use Rattle.measure.proofs.offers.points.Goals as goal

pub returns : goal.returns
returns c =
    let made = c.from_fn.ensures.items in
    is_listed (point_of c.args.prices.now c.args.participant) c.from_fn.result 10 made.long (λ k d h. filled _ (point_of c.args.prices.now c.args.participant) _ (λ i x q r. search rules) _ 10 k d made h)
