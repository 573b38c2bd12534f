-- A held step as it is listed.
use Rattle.std.specs.Prelude.{◌≡◌, Some, None, Option}
use Rattle.book.specs.Meaning.{Book}
use Rattle.network.specs.Grid.{Grid}
use Rattle.feasible.specs.declared.stage.Stage.{Stage}
use Rattle.checks.specs.Proposed.{held_of}
use Rattle.law.specs.State.{State, held_in}
use Rattle.run.specs.Worth.{worth_at}
use Rattle.replay_runs.specs.declared.listing.Listed.{Listed}

-- what is held as the step that a number named, and its worth
abbrev pub Lists : Book → Grid → State → Option Stage → Listed → Type 0
Lists m g s (Some t) l = (held_in s t ≡ Some (held_of l.held)) × (worth_at m g s t ≡ Some l.worth)
Lists m g s None l = ⊥

-- no step was named, or it is not held
abbrev pub Unlisted : State → Option Stage → Type 0
Unlisted s (Some t) = held_in s t ≡ None
Unlisted s None = Unit {0}
