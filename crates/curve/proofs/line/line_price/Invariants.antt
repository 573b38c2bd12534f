use Rattle.std.proofs.Common.{◌≡◌, ◌<◌, drop, get_or, length, pos}
use Rattle.curve.specs.Line.{line_price, price_past}
use Rattle.curve.specs.Complete.{at}
use Rattle.curve.proofs.line.line_price.Given as goal

-- what is left decides, past the point before it
abbrev pub invariant-loop-before : goal.invariant-loop-before
invariant-loop-before l =
    (line_price l.points l.level ≡ price_past (get_or l.points (length l.yielded) (at 0 (pos 0))) (drop (length l.yielded) l.rest) l.level)
    × ((get_or l.points (length l.yielded) (at 0 (pos 0))).level < l.level)
