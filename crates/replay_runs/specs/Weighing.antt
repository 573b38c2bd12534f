-- A proposal weighed in the step that was found for it.
use Rattle.std.specs.Prelude.{◌≡◌, Some, None, Option}
use Rattle.fault.specs.declared.cause.Cause.TheVariants.{StepNumber}
use Rattle.fault.specs.declared.cause.Fault.{Fault}
use Rattle.calls.specs.declared.call.Proposal.{Proposal}
use Rattle.book.specs.Meaning.{Book}
use Rattle.network.specs.Grid.{Grid}
use Rattle.fault.specs.Rules.{fault}
use Rattle.feasible.specs.Stages.{step_of}
use Rattle.feasible.specs.declared.constraints.Constraints.{Constraints}
use Rattle.feasible.specs.declared.stage.Stage.{Stage}
use Rattle.checks.specs.Causes.{examined_fault}
use Rattle.checks.specs.Proposed.{held_of, weighed}
use Rattle.checks.specs.declared.held.Held.{Held}

-- its fault
abbrev pub weigh_fault : Book → Grid → Constraints → Proposal → Option Stage → Option Fault
weigh_fault m g c p (Some t) = examined_fault m g (step_of c t) p
weigh_fault m g c p None = Some (fault StepNumber 0)

-- what it would be held as there
abbrev pub Weighs : Book → Grid → Constraints → Proposal → Option Stage → Held → Type 0
Weighs m g c p (Some t) h = (examined_fault m g (step_of c t) p ≡ None) × (held_of h ≡ weighed m g (step_of c t) p)
Weighs m g c p None h = ⊥
