use Rattle.std.proofs.Common.{◌≡◌, ℕ, ◌+◌, ◌<◌, Bool, cond, ◌&&◌, List, length, get_or, drop, ℤ, pos, arith}
use lib.Signed.{le_z}
use Rattle.std.proofs.lemmas.List.{at_drop_more, at_drop_all}
use Rattle.std.proofs.lemmas.Int.{ints, to_z-of_z}
use Rattle.rows.specs.Rules.{in_order}
use Rattle.rows.specs.declared.row.Point.{Point}
use Rattle.rows.proofs.rule.in_order.Goals as goal
use Rattle.rows.proofs.rule.in_order.Goals.{then-load, else-load, then-point-least-via-then-point-least, then-point-least-via-else-point-least+then-point-most}

abbrev none : Point
none = record { level = 0; price = pos 0 }

ahead : (load : Bool) (a b : ℤ) (ps : List Point) (i : ℕ) → i < length ps → in_order load a b (drop i ps) ≡ (le_z a (get_or ps i none).price && le_z (get_or ps i none).price b && cond load (in_order load a (get_or ps i none).price (drop (i + 1) ps)) (in_order load (get_or ps i none).price b (drop (i + 1) ps)))
unfolding in_order
ahead load a b ps i h = at_drop_more (in_order load a b) ps i none h

pub returns-then-point-least : goal.returns-then-point-least
returns-then-point-least c =
    let h = ahead c.args.load c.loop-point.least c.loop-point.most c.args.points.now c.loop-point.point-index (omega arith) in
    elim c.then-point-least.branch [
      | then-point-least-via-then-point-least w ↦ grind (arith, ints, to_z-of_z)
      | then-point-least-via-else-point-least+then-point-most w ↦ grind (arith, ints, to_z-of_z)
    ]

pub loop-point-preserved : goal.loop-point-preserved
loop-point-preserved c =
    let h = ahead c.args.load c.loop-point.least c.loop-point.most c.args.points.now c.loop-point.point-index (omega arith) in
    elim c.if-load.branch [ then-load w ↦ grind (arith, ints, to_z-of_z) | else-load w ↦ grind (arith, ints, to_z-of_z) ]

pub returns : goal.returns
unfolding in_order
returns c =
    let h = at_drop_all (in_order c.args.load c.loop-point.least c.loop-point.most) c.args.points.now c.loop-point.point-index (omega arith) in
    grind (arith, to_z-of_z)
