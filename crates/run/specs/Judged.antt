-- How a proposal is judged for one step by what is in force.
use Rattle.std.specs.Prelude.{◌≡◌, ℕ, Some, None, Result, MatchResult}
use Rattle.fault.specs.declared.cause.Fault.{Fault}
use Rattle.calls.specs.declared.call.Proposal.{Proposal}
use Rattle.book.specs.Meaning.{Book}
use Rattle.network.specs.Grid.{Grid}
use Rattle.market.specs.Market.{Step}
use Rattle.feasible.specs.declared.stage.Stage.{Stage}
use Rattle.feasible.specs.declared.stage.Stage.TheVariants.{Second}
use Rattle.checks.specs.Causes.{judged_fault}
use Rattle.checks.specs.Proposed.{HeldStep, held_of, weighed}
use Rattle.checks.specs.declared.held.Held.{Held}
use Rattle.law.specs.State.{Force, step_in, priced_book}

-- at the prices of a book, for one step: held with its gap, or the first fault
abbrev pub JudgedIn : Book → Grid → Step → ℕ → Proposal → Result Held Fault → Type 0
JudgedIn b g s tolerance p r =
    MatchResult r
    (λ h. (judged_fault b g s tolerance p ≡ None) × (held_of h ≡ weighed b g s p))
    (λ fault. judged_fault b g s tolerance p ≡ Some fault)

abbrev pub Judged : Book → Grid → Force → Stage → Proposal → Result Held Fault → Type 0
Judged b g f t p r = JudgedIn b g (step_in f t) f.tolerance p r

-- the bounded book beside a first step
abbrev pub second_book : Book → Grid → Force → HeldStep → Book
second_book m g f first = priced_book m g f (Some first) Second
