-- The worth of a step that is held.
use Rattle.std.proofs.Common.{◌≡◌, ℤ, Some, Option, sym, ap, ◌∙◌}
use Rattle.std.specs.Option.{option_map}
use Rattle.book.specs.Meaning.{Book}
use Rattle.network.specs.Grid.{Grid}
use Rattle.dispatch.specs.Base.{base_of}
use Rattle.market.specs.Market.{worth}
use Rattle.feasible.specs.declared.stage.Stage.{Stage}
use Rattle.checks.specs.Proposed.{held_of}
use Rattle.checks.specs.declared.held.Held.{Held}
use Rattle.law.specs.Law.{book_at}
use Rattle.law.specs.State.{State, held_in}
use Rattle.run.specs.Worth.{worth_at}

pub held_worth : (m : Book) (g : Grid) (s : State) (t u : Stage) (o : Option Held) (h : Held) (z : ℤ) → option_map held_of o ≡ held_in s t → o ≡ Some h → t ≡ u
    → z ≡ worth (book_at m g s u) (base_of h.dispatch) → Some z ≡ worth_at m g s t
held_worth m g s t u o h z told is stage value =
    ap Some (value ∙ sym (ap (λ v. worth (book_at m g s v) (base_of h.dispatch)) stage))
    ∙ sym (ap (option_map (λ k. worth (book_at m g s t) k.base)) (sym told ∙ ap (option_map held_of) is))
