-- What a network means, and what every network owes.
use Rattle.std.specs.Prelude.{◌≡◌, ℕ, ◌≤◌, ℤ, pos, negsuc, ◌*ℤ◌, ◌≤ℤ◌}
use Rattle.shelf.specs.Sum.{sum}

-- lines are numbered from 0; the share of a line at a bus is in thousandths
pub record Grid : Type 0 where
  pub lines : ℕ
  pub share : ℕ → ℕ → ℤ

-- the flow on line k: the sum over 64 buses of share times injection
abbrev pub flow_of : Grid → ℕ → (ℕ → ℤ) → ℤ
flow_of g k injection = sum 64 (λ b. g.share k b *ℤ injection b)

abbrev pub least_share : ℤ
least_share = negsuc 999

abbrev pub most_share : ℤ
most_share = pos 1000

pub record Lawful (g : Grid) : Type 0 where
  pub few : g.lines ≤ 32
  pub least : (k b : ℕ) → least_share ≤ℤ g.share k b
  pub most : (k b : ℕ) → g.share k b ≤ℤ most_share
  -- a line that is not there, and a bus that is not
  pub no_line : (k b : ℕ) → g.lines ≤ k → g.share k b ≡ pos 0
  pub no_bus : (k b : ℕ) → 64 ≤ b → g.share k b ≡ pos 0
