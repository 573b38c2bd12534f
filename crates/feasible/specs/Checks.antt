-- What each check of a dispatch asks at a place.
use Rattle.std.specs.Prelude.{◌≡◌, ℕ, ◌≤◌, Bool, true, ◌&&◌, ℤ, pos, ◌≤ℤ◌, int_lt}
use Rattle.shelf.specs.Sum.{sum}
use Rattle.book.specs.Meaning.{Book}
use Rattle.network.specs.Grid.{Grid, flow_of}
use Rattle.dispatch.specs.Injected.{dispatch_flow}
use Rattle.market.specs.Market.{Step, room}

-- a participant's base point lies from low to high
abbrev pub Within : Book → (ℕ → ℕ) → ℕ → Type 0
Within m x i = (m.low i ≤ x i) × (x i ≤ m.high i)

-- the readings of the first n participants
abbrev pub readings : Book → ℕ → ℤ
readings m n = sum n (λ i. pos (m.reading i))

-- a line, where the step observes it, carries at most 1,000 times its limit
abbrev pub Carried : Book → Grid → Step → (ℕ → ℕ) → ℕ → Type 0
Carried m g s x k = s.observed k ≡ true → dispatch_flow m g x k ≤ℤ room s k

-- a line that the step observes carries more, at these injections
abbrev pub over : Grid → Step → (ℕ → ℤ) → ℕ → Bool
over g s injections k = s.observed k && int_lt (room s k) (flow_of g k injections)
