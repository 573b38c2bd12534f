-- Base points by participant.
use Rattle.std.specs.Prelude.{ℕ, List, slice_index}

-- what was not given is 0
abbrev pub pointed : List ℕ → ℕ → ℕ
pointed xs i = slice_index xs i
