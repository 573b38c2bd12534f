-- What a call owes: the answer is the first cause that applies, or none, and the state afterwards is what the call
-- leaves, so that a declined call changes nothing.
use Rattle.std.specs.Prelude.{◌≡◌, Some, None, Result, MatchResult}
use Rattle.fault.specs.declared.cause.Fault.{Fault}
use Rattle.calls.specs.declared.call.Call.{Call}
use Rattle.book.specs.Meaning.{Book}
use Rattle.network.specs.Grid.{Grid}
use Rattle.law.specs.After.{state_after}
use Rattle.law.specs.Declined.{fault_of}
use Rattle.law.specs.State.{State}

pub record Called (m : Book) (g : Grid) (before : State) (c : Call) (after : State) (r : Result (Unit {0}) Fault) : Type 0 where
  pub told : MatchResult r (λ _. fault_of m g before c ≡ None) (λ f. fault_of m g before c ≡ Some f)
  pub left : after ≡ state_after m g before c
