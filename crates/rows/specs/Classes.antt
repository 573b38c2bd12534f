-- Which class a letter names.
use Rattle.std.specs.Prelude.{ℕ, cond, Ok, Err, Result, ◌==◌}
use Rattle.rows.specs.declared.class.Class.{Class}
use Rattle.rows.specs.declared.class.Class.TheVariants.{Thermal, Renewable, Committed, Load}
use Rattle.fault.specs.declared.cause.Fault.{Fault}
use Rattle.fault.specs.declared.cause.Cause.TheVariants.{ClassLetter}

-- N thermal, I renewable, R committed, L load; any other letter is the fault of a class letter
abbrev pub class_of : ℕ → Result Class Fault
class_of c =
    cond (c == 78) (Ok Thermal)
    (cond (c == 73) (Ok Renewable)
    (cond (c == 82) (Ok Committed)
    (cond (c == 76) (Ok Load) (Err (record { cause = ClassLetter; place = 0 })))))
