use Rattle.std.proofs.Common.{◌≡◌, ℕ, ◌-◌, ◌≤◌, ℤ, pos, ◌+ℤ◌, ◌-ℤ◌, ◌*ℤ◌, ap, ◌∙◌, arith, w32, w64, SFits, rules}
use Rattle.std.proofs.lemmas.Int.{ints, to_z-of_z, by_lt_z}
use Rattle.shelf.specs.Quotient.{floor_div}
use Rattle.curve.specs.Line.{between}
use Rattle.curve.proofs.Straight.{part_up, part_down}
use Rattle.curve.proofs.line.price_between.Goals as goal

-- a part of a rise between 32-bit prices, on top of the first of them, is such a price
sum_fits : (a b : ℤ) (t w : ℕ) → SFits w32 a → SFits w32 b → t ≤ w → SFits w32 (a +ℤ floor_div ((b -ℤ a) *ℤ pos t) w)
sum_fits a b t w fa fb h =
    by_lt_z a b
    (λ l. let g = part_up (b -ℤ a) t w (omega (arith, ints)) h in omega (arith, ints))
    (λ l. let g = part_down (b -ℤ a) t w (omega (arith, ints)) h in omega (arith, ints))

module _ (c : goal.After-from-6) where
  from_fits : SFits w32 c.args.from.price
  from_fits = search rules

  to_fits : SFits w32 c.args.to.price
  to_fits = search rules

  from_is : c.from-6.result ≡ c.args.from.price
  from_is = c.from-6.ensures ∙ to_z-of_z w32 c.args.from.price from_fits

  part_is : c.part_of-part.result ≡ floor_div ((c.args.to.price -ℤ c.args.from.price) *ℤ pos (c.args.level - c.args.from.level)) (c.args.to.level - c.args.from.level)
  part_is =
      let a = from_fits in
      let b = to_fits in
      let last : c.from.result ≡ c.args.to.price = c.from.ensures ∙ to_z-of_z w32 c.args.to.price to_fits in
      let first : c.from-2.result ≡ c.args.from.price = c.from-2.ensures ∙ to_z-of_z w32 c.args.from.price from_fits in
      let a2 : SFits w64 c.args.from.price = omega (arith, ints) in
      let b2 : SFits w64 c.args.to.price = omega (arith, ints) in
      let d : SFits w64 (c.args.to.price -ℤ c.args.from.price) = omega (arith, ints) in
      simp (last, first, c.from-3.ensures, c.from-4.ensures, c.from-5.ensures, to_z-of_z) at c.part_of-part.ensures.value

  total_fits : SFits w32 (c.args.from.price +ℤ c.part_of-part.result)
  total_fits = rw part_is (sum_fits _ _ _ _ from_fits to_fits (omega arith))

pub overflow_add-result : goal.overflow_add-result
overflow_add-result c = let a = from_fits c in let t = total_fits c in let e = from_is c in omega (arith, ints)

pub overflow_cast-result : goal.overflow_cast-result
overflow_cast-result c = let a = from_fits c in let t = total_fits c in let e = from_is c in omega (arith, ints)

pub returns : goal.returns
unfolding between
returns c =
    let a = from_fits c in
    let t = total_fits c in
    let f = from_is c in
    let e : _ ≡ c.args.from.price +ℤ c.part_of-part.result = omega (arith, ints) in
    e ∙ ap (λ z. c.args.from.price +ℤ z) (part_is c)
