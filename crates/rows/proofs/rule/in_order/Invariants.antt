use Rattle.std.proofs.Common.{◌≡◌, drop}
use Rattle.rows.specs.Rules.{in_order}
use Rattle.rows.proofs.rule.in_order.Given as goal

-- what is left decides
abbrev pub invariant-loop-point : goal.invariant-loop-point
invariant-loop-point l =
    in_order l.load l.floor l.top l.points ≡ in_order l.load l.least l.most (drop l.point-index l.points)
