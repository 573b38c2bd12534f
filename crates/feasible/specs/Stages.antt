-- The step that constraints make at each stage.
use Rattle.std.proofs.Common.{arith}
use Rattle.std.specs.Prelude.{◌≡◌, ℕ, Bool, true, pos, Some, None, Option, Result, MatchResult, nat_le, nat_lt, slice_index_or, cond, ◌==◌}
use Rattle.fault.specs.First.{or_else}
use Rattle.fault.specs.declared.cause.Cause.TheVariants.{Absent, Amount, StepNumber}
use Rattle.fault.specs.declared.cause.Fault.{Fault}
use Rattle.market.specs.Market.{Step}
use Rattle.feasible.specs.declared.constraints.Constraints.{Constraints}
use Rattle.feasible.specs.declared.limit.Limit.{Limit}
use Rattle.fault.specs.Rules.{fault}
use Rattle.feasible.specs.First.{unless}
use Rattle.feasible.specs.declared.stage.Stage.{Stage}
use Rattle.feasible.specs.declared.stage.Stage.TheVariants.{First, Second}
use Rattle.feasible.specs.declared.step.Step as Held

-- the limit of a line for which none is set
abbrev pub fresh_limit : Limit
fresh_limit = record { amount = 1000000; competitive = true; most = omega arith }

abbrev pub amount_of : Constraints → ℕ → ℕ
amount_of c k = (slice_index_or c.lines k fresh_limit).amount

abbrev pub competitive_of : Constraints → ℕ → Bool
competitive_of c k = (slice_index_or c.lines k fresh_limit).competitive

-- the first step observes competitive lines, the second all
abbrev pub observed : Stage → Bool → Bool
observed First competitive = competitive
observed Second competitive = true

abbrev pub step_of : Constraints → Stage → Step
step_of c t = record { requirement = pos c.requirement; limit = λ k. pos (amount_of c k); observed = λ k. observed t (competitive_of c k) }

-- the same, of constraints and stage together
abbrev pub held_to : Held.Step → Step
held_to s = step_of s.constraints s.stage

-- the stage that a step's number names
abbrev pub stage_named : ℕ → Option Stage
stage_named n = cond (n == 1) (Some First) (cond (n == 2) (Some Second) None)

abbrev pub Names : ℕ → Result Stage Fault → Type 0
Names n r = MatchResult r (λ t. stage_named n ≡ Some t) (λ f. (stage_named n ≡ None) × (f ≡ fault StepNumber 0))

-- a requirement up to 2,000,000
abbrev pub require_fault : ℕ → Option Fault
require_fault requirement = unless (nat_le requirement 2000000) Amount 0

-- one of 32 lines, and a limit up to 1,000,000
abbrev pub limit_fault : ℕ → ℕ → Option Fault
limit_fault line amount = or_else (unless (nat_lt line 32) Absent line) (unless (nat_le amount 1000000) Amount line)
