use Rattle.std.proofs.Common.{◌≡◌, drop}
use Rattle.rows.specs.Rules.{levels_from}
use Rattle.rows.proofs.rule.levels_rise.Given as goal

-- what is left decides
abbrev pub invariant-loop-point : goal.invariant-loop-point
invariant-loop-point l = levels_from 0 l.points ≡ levels_from l.least (drop l.point-index l.points)
