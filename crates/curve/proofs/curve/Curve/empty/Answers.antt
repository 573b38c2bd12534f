use Rattle.std.proofs.Common.{rules}
use Rattle.curve.specs.Line.{line_price}
use Rattle.curve.proofs.curve.Curve.empty.Goals as goal

pub returns : goal.returns
unfolding line_price
returns c q = search rules
