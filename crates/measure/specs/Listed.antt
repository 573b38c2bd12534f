-- Lists of a function's values.
use Rattle.std.specs.Prelude.{ℕ, zero, suc, List, [], ◌∷◌}

-- n values of f, from the i-th on
unfoldable pub listed : {X : Type 0} → ℕ → ℕ → (ℕ → X) → List X
listed i zero f = []
listed i (suc n) f = f i ∷ listed (suc i) n f
