use Rattle.std.proofs.Common.{◌≡◌, ℕ, suc, ◌*◌, ◌<◌, ◌≤◌, ℤ, pos, negsuc, ◌*ℤ◌, ◌≤ℤ◌, refl, mul-le-mul, arith, w64, SFits, to_z, of_z, ap, ◌∙◌}
use Rattle.std.proofs.lemmas.Int.{ints, to_z-of_z}
use Rattle.shelf.proofs.Quotient.{floor_is}
use Rattle.curve.proofs.Straight.{part_up, part_down}
use Rattle.curve.proofs.line.part_of.Goals as goal

product_fits : (d : ℤ) (t : ℕ) → negsuc 4294967295 ≤ℤ d → d ≤ℤ pos 4294967295 → t ≤ 65536 → SFits w64 (d *ℤ pos t)
product_fits (pos n) t a b h =
    let k : n ≤ 4294967295 = omega (arith, ints) in
    let m : n * t ≤ 4294967295 * 65536 = mul-le-mul k h in
    omega (arith, ints)
product_fits (negsuc n) t a b h =
    let k : suc n ≤ 4294967296 = omega (arith, ints) in
    let m : suc n * t ≤ 4294967296 * 65536 = mul-le-mul k h in
    omega (arith, ints)

-- a number below 2^16 keeps its value as a signed one
wide : (n : ℕ) (z : ℤ) → z ≡ pos n → n < 65536 → to_z w64 (of_z w64 z) ≡ pos n
wide n z e h = ap (λ y. to_z w64 (of_z w64 y)) e ∙ to_z-of_z w64 (pos n) (omega (arith, ints))

pub overflow_mul-rise : goal.overflow_mul-rise
overflow_mul-rise c =
    rw (to_z-of_z w64 c.args.rise c.ranges.rise, wide c.args.along _ c.from.ensures (omega arith))
    (product_fits c.args.rise c.args.along c.requires.fits.0 c.requires.fits.1 (omega arith))

pub div_euclid-requires : goal.div_euclid-requires
div_euclid-requires c = rw (wide c.args.run _ c.from-2.ensures (omega arith)) (record { nonzero = omega arith; no_overflow = λ e f. omega arith })

pub returns : goal.returns
returns c =
    let fit = product_fits c.args.rise c.args.along c.requires.fits.0 c.requires.fits.1 (omega arith) in
    let e = rw (to_z-of_z w64 c.args.rise c.ranges.rise, wide c.args.along _ c.from.ensures (omega arith), to_z-of_z w64 _ fit, wide c.args.run _ c.from-2.ensures (omega arith), floor_is) at c.div_euclid.ensures in
    rw (to_z-of_z w64 c.div_euclid.result (record { sfits = c.div_euclid.type_inv }), e)
    (record {
      value = refl;
      up = λ h. part_up c.args.rise c.args.along c.args.run h c.requires.within.0;
      down = λ h. part_down c.args.rise c.args.along c.args.run h c.requires.within.0;
    })
