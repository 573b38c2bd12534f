use Rattle.std.proofs.Common.{◌≡◌, ◌*ℤ◌, ◌∙◌, refl, arith, w16, w32, w64, SFits}
use Rattle.std.proofs.lemmas.Int.{ints, to_z-of_z}
use Rattle.shelf.proofs.Product.{times_within}
use Rattle.network.proofs.flow.part.Goals as goal

pub returns : goal.returns
returns c =
    let s = c.args.share in
    let i = c.args.injection in
    let a = c.ranges.share in
    let b = c.ranges.injection in
    let of_share : c.from.result ≡ s = c.from.ensures ∙ to_z-of_z w16 s a in
    let of_injection : c.from-2.result ≡ i = c.from-2.ensures ∙ to_z-of_z w32 i b in
    let wide_share : SFits w64 s = omega (arith, ints) in
    let wide_injection : SFits w64 i = omega (arith, ints) in
    let range = times_within s i 32768 2147483648 (omega (arith, ints)) (omega (arith, ints)) (omega (arith, ints)) (omega (arith, ints)) in
    let fit : SFits w64 (s *ℤ i) = omega (arith, ints, range.0, range.1) in
    simp (of_share, of_injection, to_z-of_z) (record { value = refl; least = range.0; most = range.1 })
