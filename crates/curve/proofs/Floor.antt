-- Quotients rounded down: they keep order, and a part of a whole lies between 0 and the whole.
use Rattle.std.proofs.Common.{◌≡◌, ℕ, zero, suc, ◌+◌, ◌*◌, ◌/◌, ◌≤◌, ℤ, pos, negsuc, ◌*ℤ◌, neg_ℤ, ◌≤ℤ◌, ap, ◌∙◌, le_trans, suc-mul, le-div_iff_mul-le, div-mul-le_self, mul-div_cancel, arith}
use native.Mathlib.Nat.{zero-div, div-zero}
use lib.Arith.{digits_div}
use Rattle.std.proofs.lemmas.Int.{ints}
use Rattle.shelf.specs.Quotient.{floor_div}
use Rattle.shelf.proofs.Product.{neg_times, times_keeps}

div_grows : (a b w : ℕ) → a ≤ b → a / w ≤ b / w
div_grows a b zero h = rw (div-zero a, div-zero b) (omega arith)
div_grows a b (suc w) h = (le-div_iff_mul-le (omega arith)).1 (le_trans (div-mul-le_self a (suc w)) h)

pub floor_grows : (a b : ℤ) (w : ℕ) → a ≤ℤ b → floor_div a w ≤ℤ floor_div b w
floor_grows (pos a) (pos b) w h = let g = div_grows a b w (omega (arith, ints)) in omega (arith, ints)
floor_grows (pos a) (negsuc b) w h = absurd (omega (arith, ints))
floor_grows (negsuc a) (pos b) w h = omega (arith, ints)
floor_grows (negsuc a) (negsuc b) w h = let g = div_grows b a w (omega (arith, ints)) in omega (arith, ints)

pub floor_zero : (w : ℕ) → floor_div (pos 0) w ≡ pos 0
floor_zero w = ap pos (zero-div w)

-- d·w/w is d
pub floor_whole : (d : ℤ) (w : ℕ) → floor_div (d *ℤ pos (suc w)) (suc w) ≡ d
floor_whole (pos n) w = ap pos (mul-div_cancel n (omega arith))
floor_whole (negsuc n) w =
    let e : suc n * suc w ≡ suc (n * suc w + w) = omega (arith, suc-mul n (suc w)) in
    ap (λ k. floor_div (neg_ℤ (pos k)) (suc w)) e ∙ ap negsuc (digits_div n (omega arith))

-- a product with a natural number moves with it, up or down by the sign
pub times_grows : (d : ℤ) (s t : ℕ) → pos 0 ≤ℤ d → s ≤ t → (d *ℤ pos s) ≤ℤ (d *ℤ pos t)
times_grows d s t p h = times_keeps d (pos s) (pos t) p (omega (arith, ints))

pub times_falls : (d : ℤ) (s t : ℕ) → d ≤ℤ pos 0 → s ≤ t → (d *ℤ pos t) ≤ℤ (d *ℤ pos s)
times_falls d s t p h =
    let up = times_keeps (neg_ℤ d) (pos s) (pos t) (omega (arith, ints)) (omega (arith, ints)) in
    omega (arith, ints, neg_times d (pos s), neg_times d (pos t), up)
