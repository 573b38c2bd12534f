-- What a table of fixed size has of a list.
use Rattle.std.specs.Prelude.{ℕ, List, take}

-- the items of the list that there was room for, when so many were given
abbrev pub kept : {X : Type 0} → ℕ → List X → List X
kept count items = take count items
