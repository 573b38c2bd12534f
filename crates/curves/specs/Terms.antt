-- What term lines and reference prices make of a layer, and which lines are declined.
use Rattle.std.specs.Prelude.{ℕ, cond, List, [], ◌∷◌, Some, None, Option, ℤ, nat_lt}
use Rattle.fault.specs.First.{or_else}
use Rattle.fault.specs.declared.cause.Cause.TheVariants.{Absent, Amount}
use Rattle.fault.specs.declared.cause.Fault.{Fault}
use Rattle.bounded.specs.Mitigation.{Terms, Layer, in_range}
use Rattle.bounded.specs.Tabled.{with_term, with_references}
use Rattle.calls.specs.declared.call.ParticipantTerm.{ParticipantTerm}
use Rattle.given.specs.declared.given.Given.{Given}

abbrev pub asked : ParticipantTerm → Terms
asked t = record { floor = t.floor; ceiling = t.ceiling; adder = t.adder; subject = t.subject }

-- why a line is declined, in a book of n participants: its participant is not there, or else a
-- number is out of its range
abbrev pub declined : ℕ → ParticipantTerm → Option Fault
declined n t =
    cond (nat_lt t.participant n)
    (cond (in_range t.floor t.ceiling t.adder) None (Some (record { cause = Amount; place = t.participant })))
    (Some (record { cause = Absent; place = t.participant }))

-- the first line that is declined
unfoldable pub first_declined : ℕ → List ParticipantTerm → Option Fault
first_declined n [] = None
first_declined n (t ∷ ts) = or_else (declined n t) (first_declined n ts)

-- the terms of all lines, one after another
unfoldable pub termed : Layer → List ParticipantTerm → Layer
termed l [] = l
termed l (t ∷ ts) = termed (with_term l t.participant (asked t)) ts

abbrev pub referred : Layer → Option (Given ℤ 64) → Layer
referred l None = l
referred l (Some r) = with_references l r.items
