use Rattle.std.proofs.Common.{◌≡◌, true, [], ◌∷◌, ◌++◌, ℤ, pos, negsuc, nat_abs, decimal, refl, ap, ◌∙◌, arith}
use lib.Signed.{lt_z}
use Rattle.std.proofs.lemmas.Int.{to_z-of_z}
use Rattle.std.proofs.lemmas.Bool.{ltb-true}
use Rattle.std.specs.Fmt.{signed_decimal}
use Rattle.text.specs.Lines.{text_of, kept}
use Rattle.text.proofs.Kept.{kept_both}
use Rattle.text.proofs.line.Line.put_signed.Goals as goal

signed_below : (z : ℤ) → lt_z z (pos 0) ≡ true → 45 ∷ decimal (nat_abs z) ≡ signed_decimal z
signed_below (pos n) h = absurd (omega (arith, ltb-true n 0 h))
signed_below (negsuc n) h = refl

pub returns-then-value-lt0 : goal.returns-then-value-lt0
returns-then-value-lt0 c =
    let f = c.ranges.value in
    let was = text_of c.args.self.now in
    let size = simp to_z-of_z at c.unsigned_abs.ensures.value in
    let below = simp to_z-of_z at c.if-value-lt0.true in
    kept_both was (45 ∷ []) (decimal c.unsigned_abs.result) c.put.ensures c.put_unsigned.ensures
    ∙ ap (λ ds. kept (was ++ ds)) (ap (λ n. 45 ∷ decimal n) size ∙ signed_below c.args.value below)
