-- The first place where a check fails, as a search over a range finds it.
use Rattle.std.proofs.Common.{ℕ, ◌<◌, ◌≤◌, Some, None, Option, MatchOption, arith}
use Rattle.feasible.specs.Places.{Everywhere, FirstFailing}

pub found : (n : ℕ) (holds : ℕ → Type 0) (r : Option ℕ) → MatchOption r ((k : ℕ) → 0 ≤ k → k < n → holds k) (λ i. (0 ≤ i) × (i < n) × (holds i → ⊥) × ((k : ℕ) → 0 ≤ k → k < i → holds k)) → MatchOption r (Everywhere n holds) (FirstFailing n holds)
found n holds None f = λ i l. f i (omega arith) l
found n holds (Some i) f = record { there = f.1; before = λ k l. f.3 k (omega arith) l; fails = f.2 }
