use Rattle.std.proofs.lemmas.Bool.{le-ltb}
use Rattle.curve.specs.Listed.{listed}
use Rattle.curve.proofs.Kept.{none_more}
use Rattle.curve.proofs.complete.trail.Goals as goal

pub returns-else-last-hsl : goal.returns-else-last-hsl
returns-else-last-hsl c = none_more (listed c.args.points.now) _ _ c.requires (le-ltb _ _ c.if-last-hsl.false)
