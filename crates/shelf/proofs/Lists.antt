-- Lists of one value.
use Rattle.std.proofs.Common.{◌≡◌, ℕ, zero, suc, get_or, replicate, refl}

-- a list of one value reads as that value anywhere
pub throughout : {X Y : Type 0} (f : X → Y) (n i : ℕ) (x d : X) → f x ≡ f d → f (get_or (replicate n x) i d) ≡ f d
throughout f zero i x d e = refl
throughout f (suc n) zero x d e = e
throughout f (suc n) (suc i) x d e = throughout f n i x d e
