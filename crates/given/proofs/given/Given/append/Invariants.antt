use Rattle.std.proofs.Common.{◌≡◌, ◌+◌, ◌++◌, min, take}
use Rattle.given.specs.Kept.{kept}
use Rattle.given.proofs.given.Given.append.Given as goal

abbrev pub invariant-loop-item : goal.invariant-loop-item
invariant-loop-item g l =
    (l.self.count ≡ min (l.initial.self.count + l.item-index) 18446744073709551615)
    × (kept l.self.count l.self.items ≡ take g.row.N (kept l.initial.self.count l.initial.self.items ++ take l.item-index l.items))
