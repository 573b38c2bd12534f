-- Why the gap can be trusted when the solver cannot.
use Rattle.std.specs.Prelude.{◌≡◌, ℕ, ◌<◌, false, pos, ◌-ℤ◌, ◌*ℤ◌, ◌≤ℤ◌, ◌<ℤ◌}
use Rattle.book.specs.Meaning as Books
use Rattle.book.specs.Meaning.{Book}
use Rattle.network.specs.Grid.{Grid}
use Rattle.dispatch.specs.Injected.{dispatch_flow}
use Rattle.market.specs.Market.{Step, Prices, Feasible, room, worth, gap, LastObjects, NextObjects}

-- shadow prices that are not negative, and 0 on lines that the step does not observe
pub record Fair (g : Grid) (s : Step) (p : Prices) : Type 0 where
  pub positive : (k : ℕ) → k < g.lines → pos 0 ≤ℤ p.shadow k
  pub unobserved : (k : ℕ) → k < g.lines → s.observed k ≡ false → p.shadow k ≡ pos 0

-- duality: no feasible dispatch is worth more than x by over its gap
abbrev pub Duality : Type 0
Duality =
    (m : Book) (g : Grid) (s : Step) (p : Prices) (x y : ℕ → ℕ) → Books.Lawful m → Fair g s p → Feasible m g s x → Feasible m g s y
    → ((pos 1000 *ℤ worth m y) -ℤ (pos 1000 *ℤ worth m x)) ≤ℤ gap m g s p x

-- every priced line is full, and nobody's last or next tenth objects
pub record Settled (m : Book) (g : Grid) (s : Step) (p : Prices) (x : ℕ → ℕ) : Type 0 where
  pub full : (k : ℕ) → k < g.lines → pos 0 <ℤ p.shadow k → dispatch_flow m g x k ≡ room s k
  pub lasts : (i : ℕ) → i < m.count → LastObjects m g p x i → ⊥
  pub nexts : (i : ℕ) → i < m.count → NextObjects m g p x i → ⊥

-- exactness: the gap of a feasible dispatch is 0 exactly when it is settled
abbrev pub Exactness : Type 0
Exactness =
    (m : Book) (g : Grid) (s : Step) (p : Prices) (x : ℕ → ℕ) → Books.Lawful m → Fair g s p → Feasible m g s x
    → (gap m g s p x ≡ pos 0 → Settled m g s p x) × (Settled m g s p x → gap m g s p x ≡ pos 0)
