-- Where blocks end.
use Rattle.std.specs.Prelude.{ℕ, ◌+◌, Bool, false, ◌||◌, List, [], ◌∷◌, ◌==◌}
use Rattle.block.specs.declared.row.Block.{Block}

-- whether one of the blocks ends at level q, where the first begins after level m
unfoldable pub ends_at : ℕ → List Block → ℕ → Bool
ends_at m [] q = false
ends_at m (b ∷ bs) q = m + b.size == q || ends_at (m + b.size) bs q
