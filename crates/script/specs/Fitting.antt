-- What a line of a market holds has room where it is kept.
use Rattle.std.specs.Prelude.{◌≤◌}
use Rattle.script.specs.declared.statement.Statement.{Statement}
use Rattle.script.specs.declared.statement.Statement.TheVariants.{Blank, Cap, Row, Block, Term, Reference, Line, Base}

-- lists that are refused where they are too long: 64 reference prices, and 64 base points
abbrev pub Fits : Statement → Type 0
Fits Blank = Unit {0}
Fits (Cap _) = Unit {0}
Fits (Row _) = Unit {0}
Fits (Block _) = Unit {0}
Fits (Term _) = Unit {0}
Fits (Reference prices) = prices.count ≤ 64
Fits (Line _) = Unit {0}
Fits (Base points) = points.count ≤ 64
