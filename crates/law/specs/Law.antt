-- The law of runs: over every book, every network and every list of calls, the newest first.
use Rattle.std.specs.Prelude.{◌≡◌, ℕ, List, ◌∷◌, pos, ◌-ℤ◌, ◌*ℤ◌, ◌≤ℤ◌, Some, None}
use Rattle.calls.specs.declared.call.Call.{Call}
use Rattle.calls.specs.declared.call.Call.TheVariants.{Propose}
use Rattle.calls.specs.declared.call.Proposal.{Proposal}
use Rattle.book.specs.Meaning.{Book}
use Rattle.network.specs.Grid.{Grid}
use Rattle.market.specs.Laws.{Settled}
use Rattle.market.specs.Market.{Step, Feasible, worth, gap}
use Rattle.feasible.specs.declared.stage.Stage.{Stage}
use Rattle.checks.specs.Proposed.{HeldStep, quoted, dispatched}
use Rattle.law.specs.Declined.{asked_fault}
use Rattle.law.specs.History.{history, left_by}
use Rattle.law.specs.State.{State, held_in, step_in, priced_book, stage_of}

-- what the calls leave
abbrev pub leaves : Book → Grid → List Call → State
leaves m g cs = left_by m g (history m g cs)

-- the book and the step by which a state judges
abbrev pub book_at : Book → Grid → State → Stage → Book
book_at m g s t = priced_book m g s.force s.first t

abbrev pub step_at : State → Stage → Step
step_at s t = step_in s.force t

-- a held dispatch is feasible, its gap is the one defined, and no feasible dispatch is worth more by over its gap
pub record Certificate (m : Book) (g : Grid) (s : Step) (h : HeldStep) : Type 0 where
  pub feasible : Feasible m g s h.base
  pub exactly : h.gap ≡ gap m g s h.prices h.base
  pub bound : (y : ℕ → ℕ) → Feasible m g s y → ((pos 1000 *ℤ worth m y) -ℤ (pos 1000 *ℤ worth m h.base)) ≤ℤ h.gap

-- a proposal stands in a state if it is held there as its step, with gap 0
abbrev pub Stands : State → Proposal → Type 0
Stands s p = held_in s (stage_of p.step) ≡ Some (record { prices = quoted p; base = dispatched p; gap = pos 0 })

-- its base points are feasible for its step, every priced line is full, and nobody's last or next tenth objects
pub record Unopposed (m : Book) (g : Grid) (s : Step) (p : Proposal) : Type 0 where
  pub feasible : Feasible m g s (dispatched p)
  pub settled : Settled m g s (quoted p) (dispatched p)

pub record LawOfRuns (m : Book) (g : Grid) (cs : List Call) : Type 0 where
  -- whatever is held is certified by its gap
  pub certified : (t : Stage) (h : HeldStep) → held_in (leaves m g cs) t ≡ Some h
      → Certificate (book_at m g (leaves m g cs) t) g (step_at (leaves m g cs) t) h
  -- whatever proposal comes next whose step, lists and prices can be judged stands exactly where nobody objects
  pub judged : (p : Proposal) → asked_fault m g (leaves m g cs) p ≡ None
      → (Stands (leaves m g (Propose p ∷ cs)) p → Unopposed (book_at m g (leaves m g cs) (stage_of p.step)) g (step_at (leaves m g cs) (stage_of p.step)) p)
      × (Unopposed (book_at m g (leaves m g cs) (stage_of p.step)) g (step_at (leaves m g cs) (stage_of p.step)) p → Stands (leaves m g (Propose p ∷ cs)) p)
