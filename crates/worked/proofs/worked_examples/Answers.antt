use mathlib.Core.Path.{refl}
use Rattle.curve.specs.Line.{between, price_past, line_price}
use Rattle.market.specs.Best.{best}
use Rattle.shelf.specs.Sum.{sum}
use Rattle.worked.proofs.worked_examples.Goals as goal

pub returns : goal.returns
unfolding between price_past line_price sum best
returns c = record { value = refl; hold = (refl, (refl, (refl, (refl, (refl, (refl, (refl, (refl, (refl, (refl, tt)))))))))) }
