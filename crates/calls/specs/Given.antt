-- The numbers that a proposal's tables have of those that were given.
use Rattle.std.specs.Prelude.{ℕ, List}
use Rattle.given.specs.Kept.{kept}
use Rattle.given.specs.declared.given.Given.{Given}

abbrev pub prices_in : Given ℕ 32 → List ℕ
prices_in t = kept t.count t.items

abbrev pub points_in : Given ℕ 64 → List ℕ
points_in t = kept t.count t.items
