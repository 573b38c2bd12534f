-- The greatest sum of a front.
use Rattle.std.specs.Prelude.{ℕ, zero, suc, ℤ, pos}
use Rattle.std.specs.Int.{int_max}
use Rattle.shelf.specs.Sum.{sum}

-- the greatest of the sums of the first 0, 1, … n values of f
unfoldable pub best : ℕ → (ℕ → ℤ) → ℤ
best zero f = pos 0
best (suc n) f = int_max (best n f) (sum (suc n) f)
