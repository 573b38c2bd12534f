-- The first place at which a test is true.
use Rattle.std.specs.Prelude.{ℕ, zero, suc, Bool, cond, Some, None, Option}
use Rattle.std.specs.Option.{option_map}
use Rattle.fault.specs.First.{or_else}
use Rattle.fault.specs.Rules.{fault}
use Rattle.fault.specs.declared.cause.Cause.{Cause}
use Rattle.fault.specs.declared.cause.Fault.{Fault}

-- among 0, 1, … n − 1
unfoldable pub first_place : (ℕ → Bool) → ℕ → Option ℕ
first_place test zero = None
first_place test (suc n) = or_else (first_place test n) (cond (test n) (Some n) None)

-- the cause at the place, if there is one
abbrev pub placed : Cause → Option ℕ → Option Fault
placed c place = option_map (fault c) place

-- the cause at the place, unless the test is true
abbrev pub unless : Bool → Cause → ℕ → Option Fault
unless good c place = cond good None (Some (fault c place))
