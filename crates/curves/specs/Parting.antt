-- Where the prices of two books part.
use Rattle.std.specs.Prelude.{ℕ, ◌+◌, Bool, cond, not, ◌&&◌, int_le}
use Rattle.book.specs.Meaning.{Book}

-- whether participant i has one price at level q in both books
abbrev pub agreed : Book → Book → ℕ → ℕ → Bool
agreed m n i q = int_le (m.price i q) (n.price i q) && int_le (n.price i q) (m.price i q)

-- whether it has one price at q and two at the next level, or the other way round
abbrev pub parted : Book → Book → ℕ → ℕ → Bool
parted m n i q = cond (agreed m n i q) (not (agreed m n i (q + 1))) (agreed m n i (q + 1))
