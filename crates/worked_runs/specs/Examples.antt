-- The worked runs of the documents, each as an instance of the definitions.
use Rattle.std.specs.Prelude.{◌≡◌, ℕ, true, false, cond, List, [], ◌∷◌, ℤ, pos, negsuc, Some, ◌==◌}
use Rattle.std.specs.Option.{option_map}
use Rattle.fault.specs.declared.cause.Cause.TheVariants.{StepNumber, GapTolerance}
use Rattle.fault.specs.declared.cause.Fault.{Fault}
use Rattle.calls.specs.declared.call.Call.{Call}
use Rattle.calls.specs.declared.call.Call.TheVariants.{Require, Limit, Term, Propose}
use Rattle.book.specs.Meaning.{Book}
use Rattle.bounded.specs.Tabled.{terms_of, fresh_term}
use Rattle.checks.specs.Proposed.{HeldStep}
use Rattle.feasible.specs.declared.stage.Stage.{Stage}
use Rattle.feasible.specs.declared.stage.Stage.TheVariants.{First, Second}
use Rattle.law.specs.Declined.{fault_of}
use Rattle.law.specs.Law.{leaves}
use Rattle.law.specs.State.{Force, held_in, step_in, priced_book}
use Rattle.market.specs.Market.{Step, Prices, worth, gap}
use Rattle.network.specs.Grid.{Grid}
use Rattle.worked.specs.Examples.{two_units, one_line, at_system, base}

pub data Example : Type 0 where
  -- the dispatch x is worth v in the offer book m
  valued : (m : Book) (x : ℕ → ℕ) (v : ℤ) → Example
  -- the dispatch x has the gap v in the offer book m and the network g, for the step s at the prices p
  gapped : (m : Book) (g : Grid) (s : Step) (p : Prices) (x : ℕ → ℕ) (v : ℤ) → Example
  -- a run on the offer book m and the network g holds step t with the gap v after the calls cs, the newest first
  held : (m : Book) (g : Grid) (cs : List Call) (t : Stage) (v : ℤ) → Example
  -- after the calls cs the call c is declined by the fault f
  declined : (m : Book) (g : Grid) (cs : List Call) (c : Call) (f : Fault) → Example

abbrev pub Holds : Example → Type 0
Holds (valued m x v) = worth m x ≡ v
Holds (gapped m g s p x v) = gap m g s p x ≡ v
Holds (held m g cs t v) = option_map (λ h. h.gap) (held_in (leaves m g cs) t) ≡ Some v
Holds (declined m g cs c f) = fault_of m g (leaves m g cs) c ≡ Some f

abbrev pub AllHold : List Example → Type 0
AllHold [] = Unit {0}
AllHold (x ∷ xs) = Holds x × AllHold xs

-- what is in force there: no tolerance, and the committed unit subject to mitigation with the cap 10,000 and the adder 100
abbrev pub in_force : Force
in_force =
    record {
      requirement = 250;
      tolerance = 0;
      amount = λ _. 200;
      competitive = λ _. false;
      terms = λ i. cond (i == 1) (record { floor = negsuc 24999; ceiling = pos 10000; adder = 100; subject = true }) (terms_of fresh_term);
    }

-- the first step that is held
abbrev pub first_held : HeldStep
first_held = record { prices = at_system (pos 3500); base = base 250 0; gap = pos 0 }

-- the book of the second step, which the first step bounds
abbrev pub bounded_units : Book
bounded_units = priced_book two_units one_line in_force (Some first_held) Second

-- the calls that lead there
abbrev proposal : ℕ → ℤ → ℕ → ℕ → ℕ → Call
proposal step y u a b =
    Propose (record { step = step; system = y; shadow = record { count = 1; items = u ∷ [] }; base = record { count = 2; items = a ∷ b ∷ [] } })

abbrev pub entry_calls : List Call
entry_calls =
    Term (record { participant = 1; floor = negsuc 24999; ceiling = pos 10000; adder = 100; subject = true })
    ∷ Limit (record { line = 0; amount = 200; competitive = false })
    ∷ Require (record { amount = 250; tolerance = 0 })
    ∷ []

abbrev pub first_calls : List Call
first_calls = proposal 1 (pos 3500) 0 250 0 ∷ entry_calls

abbrev pub examples : List Example
examples =
    -- the second step, with the line full and the committed unit at its cap
    valued bounded_units (base 200 50) (negsuc 750499)
    ∷ gapped bounded_units one_line (step_in in_force Second) (record { system = pos 10000; shadow = λ _. pos 7000 }) (base 200 50) (pos 0)
    -- a run that holds them
    ∷ held two_units one_line first_calls First (pos 0)
    ∷ held two_units one_line (proposal 2 (pos 10000) 7000 200 50 ∷ first_calls) Second (pos 0)
    -- and that declines a gap of 10,000, and a second step without a first
    ∷ declined two_units one_line entry_calls (proposal 1 (pos 3520) 0 250 0) (record { cause = GapTolerance; place = 0 })
    ∷ declined two_units one_line entry_calls (proposal 2 (pos 10000) 7000 200 50) (record { cause = StepNumber; place = 0 })
    ∷ []
