-- A call's contract from its fault.
use Rattle.std.proofs.Common.{◌≡◌, Some, None, Ok, Err, sym, ap, ◌∙◌}
use Rattle.fault.specs.declared.cause.Fault.{Fault}
use Rattle.calls.specs.declared.call.Call.{Call}
use Rattle.book.specs.Meaning.{Book}
use Rattle.network.specs.Grid.{Grid}
use Rattle.law.specs.After.{made, answered}
use Rattle.law.specs.Declined.{fault_of}
use Rattle.law.specs.State.{State}
use Rattle.run.specs.Called.{Called}

module _ (m : Book) (g : Grid) (s : State) (c : Call) where
  pub accepted : (after : State) → fault_of m g s c ≡ None → after ≡ made m g s c → Called m g s c after (Ok tt)
  accepted after none is = record { told = none; left = is ∙ sym (ap (λ a. answered a (made m g s c) s) none) }

  pub declined : (after : State) (f : Fault) → fault_of m g s c ≡ Some f → after ≡ s → Called m g s c after (Err f)
  declined after f some is = record { told = some; left = is ∙ sym (ap (λ a. answered a (made m g s c) s) some) }
