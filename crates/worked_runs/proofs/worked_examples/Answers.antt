use Rattle.std.proofs.Common.{refl}
use Rattle.curve.specs.Line.{between, price_past, line_price}
use Rattle.feasible.specs.First.{first_place}
use Rattle.law.specs.History.{last_set, history}
use Rattle.market.specs.Best.{best}
use Rattle.shelf.specs.Sum.{sum}
use Rattle.worked_runs.proofs.worked_examples.Goals as goal

pub returns : goal.returns
unfolding between price_past line_price sum best first_place last_set history
returns c = record { value = refl; hold = (refl, (refl, (refl, (refl, (refl, (refl, tt)))))) }
