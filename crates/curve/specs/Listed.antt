-- A list of points in a table of thirteen.
use Rattle.std.specs.Prelude.{List, take}
use Rattle.given.specs.Kept.{kept as kept_of}
use Rattle.given.specs.declared.given.Given.{Given}
use Rattle.rows.specs.declared.row.Point.{Point}

-- the points that a table lists
abbrev pub listed : Given Point 13 → List Point
listed t = kept_of t.count t.items

-- what a table keeps of a list: its first thirteen points
abbrev pub kept : List Point → List Point
kept ps = take 13 ps
