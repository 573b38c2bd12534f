-- The least and the greatest price of a participant.
use Rattle.std.specs.Prelude.{◌≡◌, ℕ, ◌+◌, cond, ℤ, pos, ◌≤ℤ◌, Some, None, Option, MatchOption, ◌==◌, int_lt}
use Rattle.book.specs.Meaning.{Book, Priced}

-- the prices of the first and the last level: a generator's rise from the first to the last, a
-- load's fall; a participant with low = high has no level
abbrev pub span_of : Book → ℕ → Option (ℤ × ℤ)
span_of m i =
    cond (m.low i == m.high i) None
    (Some (cond (int_lt (pos 0) (m.side i))
    (m.price i (m.low i + 1), m.price i (m.high i))
    (m.price i (m.high i), m.price i (m.low i + 1))))

-- every price of the participant lies in the span
abbrev pub Within : Book → ℕ → Option (ℤ × ℤ) → Type 0
Within m i r =
    MatchOption r (m.low i ≡ m.high i) (λ s. (q : ℕ) → Priced m i q → (s.0 ≤ℤ m.price i q) × (m.price i q ≤ℤ s.1))
