-- The answers to a list of calls.
use Rattle.std.specs.Prelude.{ℕ, List, reverse, take, Option, slice_index_or}
use Rattle.fault.specs.declared.cause.Fault.{Fault}
use Rattle.calls.specs.declared.call.Call.{Call}
use Rattle.calls.specs.declared.call.Call.TheVariants.{Require}
use Rattle.book.specs.Meaning.{Book}
use Rattle.network.specs.Grid.{Grid}
use Rattle.law.specs.Declined.{fault_of}
use Rattle.law.specs.Law.{leaves}

-- what stands past the last call
abbrev pub no_call : Call
no_call = Require (record { amount = 0; tolerance = 0 })

-- the answer to call k: its first cause after the calls before it, or none
abbrev pub answer_at : Book → Grid → List Call → ℕ → Option Fault
answer_at m g cs k = fault_of m g (leaves m g (reverse (take k cs))) (slice_index_or cs k no_call)
