use Rattle.std.proofs.Common.{◌+◌, eqb, rules, tests}
use Rattle.std.proofs.lemmas.Iterator.{YieldsList-from_slice}
use Rattle.std.proofs.lemmas.Iterator.Search.{any_from_yields_List}
use Rattle.curves.proofs.unit.point_at.Goals as goal

pub returns : goal.returns
returns c =
    any_from_yields_List (λ p. eqb c.args.at (p.level + c.args.to)) _ _ _ c.any.ensures.ran (YieldsList-from_slice c.args.points.now cc) (λ x b q k. search (rules, tests))
