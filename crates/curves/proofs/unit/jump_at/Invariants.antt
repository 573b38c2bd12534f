use Rattle.std.proofs.Common.{◌≡◌, drop}
use Rattle.curves.specs.Bends.{jump_at, jump_past}
use Rattle.curves.proofs.unit.jump_at.Given as goal

-- what is left decides, past the point before it
abbrev pub invariant-loop-point : goal.invariant-loop-point
invariant-loop-point l =
    jump_at l.at l.to l.points ≡ jump_past l.at l.to l.before (drop l.point-index l.rest)
