-- The causes by which a proposal is declined in a step, one definition each, and their order.
use Rattle.std.specs.Prelude.{ℕ, Bool, not, ◌&&◌, ◌||◌, List, length, ℤ, pos, negsuc, Option, ◌==◌, int_le, int_lt, nat_lt, slice_index}
use Rattle.fault.specs.First.{or_else}
use Rattle.fault.specs.declared.cause.Cause.TheVariants.{ListLength, PriceRange, UnobservedPrice, BasePoint, Balance, FlowLimit, GapTolerance}
use Rattle.fault.specs.declared.cause.Fault.{Fault}
use Rattle.calls.specs.Given.{prices_in, points_in}
use Rattle.calls.specs.declared.call.Proposal.{Proposal}
use Rattle.given.specs.declared.given.Given.{Given}
use Rattle.book.specs.Meaning.{Book}
use Rattle.network.specs.Grid.{Grid}
use Rattle.dispatch.specs.Injected.{injected}
use Rattle.market.specs.Market.{Step, Prices, balance, due, gap}
use Rattle.feasible.specs.Checks.{over}
use Rattle.feasible.specs.First.{first_place, placed, unless}
use Rattle.checks.specs.Pointed.{pointed}
use Rattle.checks.specs.Proposed.{quoted, dispatched}

-- a shadow price for each line, and a base point for each participant
abbrev pub count_fault : Book → Grid → Proposal → Option Fault
count_fault m g p = unless (p.shadow.count == g.lines && p.base.count == m.count) ListLength 0

abbrev pub dear : List ℕ → ℕ → Bool
dear us k = nat_lt 1000000 (slice_index us k)

-- the system price within ±1,000,000, looked at first and told as place 32; a shadow price up to 1,000,000
abbrev pub price_fault : Proposal → Option Fault
price_fault p =
    or_else (unless (int_le (negsuc 999999) p.system && int_le p.system (pos 1000000)) PriceRange 32)
    (placed PriceRange (first_place (dear (prices_in p.shadow)) (length (prices_in p.shadow))))

-- a shadow price above 0 on a line that the step does not observe
abbrev pub unobserved : Step → Prices → ℕ → Bool
unobserved s p k = int_lt (pos 0) (p.shadow k) && not (s.observed k)

abbrev pub unobserved_fault : Grid → Step → Prices → Option Fault
unobserved_fault g s p = placed UnobservedPrice (first_place (unobserved s p) g.lines)

-- a base point q outside the limits of participant i
abbrev pub beyond : Book → ℕ → ℕ → Bool
beyond m i q = nat_lt q (m.low i) || nat_lt (m.high i) q

abbrev pub outside : Book → (ℕ → ℕ) → ℕ → Bool
outside m x i = beyond m i (x i)

abbrev pub limit_fault : Book → (ℕ → ℕ) → Option Fault
limit_fault m x = placed BasePoint (first_place (outside m x) m.count)

-- base points alone: one for each participant, within its limits
abbrev pub base_fault : Book → Given ℕ 64 → Option Fault
base_fault m t = or_else (unless (t.count == m.count) ListLength 0) (limit_fault m (pointed (points_in t)))

abbrev pub same : ℤ → ℤ → Bool
same a b = int_le a b && int_le b a

abbrev pub balance_fault : Book → Step → (ℕ → ℕ) → Option Fault
balance_fault m s x = unless (same (balance m x) (due m s)) Balance 0

-- an observed line whose flow is over 1,000 times its limit
abbrev pub overloaded : Book → Grid → Step → (ℕ → ℕ) → ℕ → Bool
overloaded m g s x = over g s (injected m x)

abbrev pub flow_fault : Book → Grid → Step → (ℕ → ℕ) → Option Fault
flow_fault m g s x = placed FlowLimit (first_place (overloaded m g s x) g.lines)

abbrev pub gap_fault : ℤ → ℕ → Option Fault
gap_fault gap tolerance = unless (int_le gap (pos tolerance)) GapTolerance 0

-- lists and prices that can be judged
abbrev pub form_fault : Book → Grid → Step → Proposal → Option Fault
form_fault m g s p = or_else (count_fault m g p) (or_else (price_fault p) (unobserved_fault g s (quoted p)))

-- a dispatch that the network can carry
abbrev pub network_fault : Book → Grid → Step → (ℕ → ℕ) → Option Fault
network_fault m g s x = or_else (balance_fault m s x) (flow_fault m g s x)

-- a dispatch that is feasible
abbrev pub dispatch_fault : Book → Grid → Step → (ℕ → ℕ) → Option Fault
dispatch_fault m g s x = or_else (limit_fault m x) (network_fault m g s x)

abbrev pub examined_fault : Book → Grid → Step → Proposal → Option Fault
examined_fault m g s p = or_else (form_fault m g s p) (dispatch_fault m g s (dispatched p))

abbrev pub judged_fault : Book → Grid → Step → ℕ → Proposal → Option Fault
judged_fault m g s tolerance p = or_else (examined_fault m g s p) (gap_fault (gap m g s (quoted p) (dispatched p)) tolerance)
