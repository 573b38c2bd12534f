use Rattle.std.proofs.Common.{rules}
use Rattle.market.proofs.Filled.{filled}
use Rattle.measure.specs.Widest.{line_of}
use Rattle.measure.proofs.Listed.{is_listed}
use Rattle.measure.proofs.lines.lines_of.Goals as goal

pub returns : goal.returns
returns c =
    let made = c.from_fn.ensures.items in
    is_listed (line_of c.args.shares.now) c.from_fn.result 32 made.long (λ k d h. filled _ (line_of c.args.shares.now) _ (λ i x q r. search rules) _ 32 k d made h)
