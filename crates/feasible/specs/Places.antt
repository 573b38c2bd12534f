-- A check over places in order: it holds everywhere, or there is a first place where it fails.
use Rattle.std.specs.Prelude.{ℕ, ◌<◌}

abbrev pub Everywhere : ℕ → (ℕ → Type 0) → Type 0
Everywhere n holds = (i : ℕ) → i < n → holds i

pub record FirstFailing (n : ℕ) (holds : ℕ → Type 0) (i : ℕ) : Type 0 where
  pub there : i < n
  pub before : Everywhere i holds
  pub fails : holds i → ⊥
