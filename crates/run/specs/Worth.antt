-- The worth of a step that is held.
use Rattle.std.specs.Prelude.{ℤ, Option}
use Rattle.std.specs.Option.{option_map}
use Rattle.book.specs.Meaning.{Book}
use Rattle.network.specs.Grid.{Grid}
use Rattle.market.specs.Market.{worth}
use Rattle.feasible.specs.declared.stage.Stage.{Stage}
use Rattle.law.specs.Law.{book_at}
use Rattle.law.specs.State.{State, held_in}

-- at the prices of its step, if it is held
abbrev pub worth_at : Book → Grid → State → Stage → Option ℤ
worth_at m g s t = option_map (λ h. worth (book_at m g s t) h.base) (held_in s t)
