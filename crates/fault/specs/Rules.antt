-- The fault of rows that a rule declines.
use Rattle.std.specs.Prelude.{ℕ, suc, Bool, cond, List, [], ◌∷◌, length, Some, None, Option, nat_le}
use Rattle.fault.specs.declared.cause.Cause.{Cause}
use Rattle.fault.specs.declared.cause.Fault.{Fault}

abbrev pub fault : Cause → ℕ → Fault
fault c i = record { cause = c; place = i }

-- the first row that breaks a rule, where the rows are numbered from i
unfoldable pub first_broken : {R : Type 0} → (R → Bool) → Cause → ℕ → List R → Option Fault
first_broken broken c i [] = None
first_broken broken c i (r ∷ rs) = cond (broken r) (Some (fault c i)) (first_broken broken c (suc i) rs)

-- more rows than there may be
abbrev pub too_many : {R : Type 0} → ℕ → Cause → List R → Option Fault
too_many most c rows = cond (nat_le (length rows) most) None (Some (fault c 0))
