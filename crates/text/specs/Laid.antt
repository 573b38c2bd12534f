-- A text laid into a buffer at a place: whole, or not at all.
use Rattle.std.specs.Prelude.{ℕ, ◌+◌, Bool, cond, List, ◌++◌, length, take, drop, Some, None, Option, nat_le}

-- whether the text fits into the buffer from the place at on
abbrev pub fits : List ℕ → ℕ → List ℕ → Bool
fits text at before = nat_le (at + length text) (length before)

-- where the text ends in the buffer, or nothing where it does not fit
abbrev pub laid_end : List ℕ → ℕ → List ℕ → Option ℕ
laid_end text at before = cond (fits text at before) (Some (at + length text)) None

-- the buffer with the text at its place, or as it was where the text does not fit
abbrev pub laid : List ℕ → ℕ → List ℕ → List ℕ
laid text at before = cond (fits text at before) (take at before ++ text ++ drop (at + length text) before) before
