-- A list of zeros.
use Rattle.std.proofs.Common.{◌≡◌, ℕ, get_or, replicate, pos, refl}
use Rattle.shelf.proofs.Lists.{throughout}

pub zero_at : (b : ℕ) → get_or (replicate 64 (pos 0)) b (pos 0) ≡ pos 0
zero_at b = throughout (λ z. z) 64 b (pos 0) (pos 0) refl
