-- Several checks of which none answers.
use Rattle.std.proofs.Common.{◌≡◌, ℕ, Bool, true, false, cond, Some, None, Option, refl, arith}
use Rattle.fault.specs.First.{or_else}

pub none_both : {X : Type 0} (x y : Option X) → or_else x y ≡ None → (x ≡ None) × (y ≡ None)
none_both None y e = (refl, e)
none_both (Some x) y e = let z : ◌≡◌ {A = ℕ} 0 1 = cc in absurd (omega arith)

-- a check that answers where its test is true, before others
pub unbroken : {X : Type 0} (b : Bool) (x : X) (rest : Option X) → cond b (Some x) rest ≡ None → (b ≡ false) × (rest ≡ None)
unbroken true x rest e = let z : ◌≡◌ {A = ℕ} 0 1 = cc in absurd (omega arith)
unbroken false x rest e = (refl, e)
