use Rattle.std.proofs.Common.{◌≡◌, ℕ, ◌+◌, ◌<◌, ◌&&◌, leb, List, length, get_or, drop, pos, sym, ◌∙◌, arith}
use Rattle.std.proofs.lemmas.List.{at_drop_more, at_drop_all}
use Rattle.std.proofs.lemmas.Bool.Decides.{nat_tests}
use Rattle.rows.specs.Rules.{levels_from}
use Rattle.rows.specs.declared.row.Point.{Point}
use Rattle.rows.proofs.rule.levels_rise.Goals as goal

abbrev none : Point
none = record { level = 0; price = pos 0 }

ahead : (ps : List Point) (i m : ℕ) → i < length ps → levels_from m (drop i ps) ≡ (leb m (get_or ps i none).level && leb (get_or ps i none).level 20000 && levels_from (get_or ps i none).level (drop (i + 1) ps))
unfolding levels_from
ahead ps i m h = at_drop_more (levels_from m) ps i none h

pub returns-then-point-least : goal.returns-then-point-least
returns-then-point-least c =
    let h = ahead c.args.points.now c.loop-point.point-index c.loop-point.least (omega arith) in
    grind (arith, nat_tests)

pub loop-point-preserved : goal.loop-point-preserved
loop-point-preserved c =
    let h = ahead c.args.points.now c.loop-point.point-index c.loop-point.least (omega arith) in
    grind (arith, nat_tests)

pub returns : goal.returns
unfolding levels_from
returns c =
    sym (c.loop-point.invariant ∙ at_drop_all (levels_from c.loop-point.least) c.args.points.now c.loop-point.point-index (omega arith))
