-- What a proposal proposes: prices and base points. What was not given is 0.
use Rattle.std.specs.Prelude.{ℕ, ℤ, pos, slice_index}
use Rattle.calls.specs.Given.{prices_in, points_in}
use Rattle.calls.specs.declared.call.Proposal.{Proposal}
use Rattle.book.specs.Meaning.{Book}
use Rattle.network.specs.Grid.{Grid}
use Rattle.dispatch.specs.Base.{base_of}
use Rattle.market.specs.Market.{Step, Prices, gap}
use Rattle.market.specs.Quoted.{prices_of}
use Rattle.checks.specs.Pointed.{pointed}
use Rattle.checks.specs.declared.held.Held.{Held}

abbrev pub quoted : Proposal → Prices
quoted p = record { system = p.system; shadow = λ k. pos (slice_index (prices_in p.shadow) k) }

abbrev pub dispatched : Proposal → ℕ → ℕ
dispatched p = pointed (points_in p.base)

-- a proposal that is held: its prices, base points and gap
pub record HeldStep : Type 0 where
  pub prices : Prices
  pub base : ℕ → ℕ
  pub gap : ℤ

abbrev pub held_of : Held → HeldStep
held_of h = record { prices = prices_of h.quote; base = base_of h.dispatch; gap = h.gap }

-- a proposal with the gap that it has in a step, at the prices of the book
abbrev pub weighed : Book → Grid → Step → Proposal → HeldStep
weighed m g s p = record { prices = quoted p; base = dispatched p; gap = gap m g s (quoted p) (dispatched p) }
