-- What is said of a participant whose tenths object, in bytes.
use Rattle.std.specs.Prelude.{ℕ, cond, List, [], codes}
use Rattle.gap.specs.declared.objecting.Objections.{Objections}

abbrev pub objecting : Objections → List ℕ
objecting o = cond o.last (codes " last objects") (cond o.next (codes " next objects") [])
