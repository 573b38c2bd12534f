-- Division with a remainder that is not negative rounds down.
use Rattle.std.proofs.Common.{◌≡◌, ℕ, ℤ, pos, negsuc, refl}
use Rattle.std.specs.Int.{int_div_euclid}
use Rattle.shelf.specs.Quotient.{floor_div}

pub floor_is : (z : ℤ) (d : ℕ) → int_div_euclid z (pos d) ≡ floor_div z d
floor_is (pos n) d = refl
floor_is (negsuc n) d = refl
