-- The state of a run as its fields hold it, and what stays of a run.
use Rattle.std.specs.Prelude.{◌≡◌}
use Rattle.std.specs.Option.{option_map}
use Rattle.bounded.specs.Tabled.{layer_of}
use Rattle.feasible.specs.Stages.{amount_of, competitive_of}
use Rattle.checks.specs.Proposed.{held_of}
use Rattle.law.specs.State.{Force, State}
use Rattle.run.specs.declared.run.Run.{Run}

abbrev pub force_of : {B N : Type 0} → Run B N → Force
force_of r =
    record {
      requirement = r.constraints.requirement;
      tolerance = r.tolerance;
      amount = amount_of r.constraints;
      competitive = competitive_of r.constraints;
      terms = (layer_of r.book.table).terms;
    }

abbrev pub state_of : {B N : Type 0} → Run B N → State
state_of r = record { force = force_of r; first = option_map held_of r.first; second = option_map held_of r.second }

-- a run over the same book and network
pub record SameMarket {B N : Type 0} (old new : Run B N) : Type 0 where
  pub book : new.book.book ≡ old.book.book
  pub network : new.network ≡ old.network

-- and in the same state
pub record Still {B N : Type 0} (old new : Run B N) : Type 0 where
  pub state : state_of new ≡ state_of old
  pub book : new.book.book ≡ old.book.book
  pub network : new.network ≡ old.network
