-- What each reason says of a dispatch that is not feasible for a step.
use Rattle.std.specs.Prelude.{◌≡◌, ℕ, ◌≢◌}
use Rattle.book.specs.Meaning.{Book}
use Rattle.network.specs.Grid.{Grid}
use Rattle.market.specs.Market.{Step, balance, due}
use Rattle.feasible.specs.Checks.{Within, Carried}
use Rattle.feasible.specs.Places.{Everywhere, FirstFailing}
use Rattle.feasible.specs.declared.reason.Infeasible.{Infeasible}
use Rattle.feasible.specs.declared.reason.Infeasible.TheVariants.{OutsideLimits, OutOfBalance, Overloaded}

abbrev pub Fails : Book → Grid → Step → (ℕ → ℕ) → Infeasible → Type 0
Fails m g s x (OutsideLimits i) = FirstFailing m.count (Within m x) i
Fails m g s x OutOfBalance = Everywhere m.count (Within m x) × (balance m x ≢ due m s)
Fails m g s x (Overloaded k) = Everywhere m.count (Within m x) × (balance m x ≡ due m s) × FirstFailing g.lines (Carried m g s x) k
