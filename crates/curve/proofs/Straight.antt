-- Line prices keep the order and the bounds of the prices of their points.
use Rattle.std.proofs.Common.{◌≡◌, ℕ, zero, suc, ◌-◌, ◌≤◌, leb, List, [], ◌∷◌, ℤ, pos, ◌-ℤ◌, ◌*ℤ◌, ◌≤ℤ◌, refl, ap, ◌∙◌, arith}
use lib.IntN.{*ℤ-zero}
use Rattle.std.proofs.lemmas.Int.{ints}
use Rattle.std.proofs.lemmas.Bool.{leb-true, leb-false, cond_both}
use Rattle.rows.specs.declared.row.Point.{Point}
use Rattle.shelf.specs.Quotient.{floor_div}
use Rattle.curve.specs.Line.{between, price_past, line_price}
use Rattle.curve.proofs.Floor.{floor_grows, floor_zero, floor_whole, times_grows, times_falls}

-- no part of a rise is no rise
none_of : (d : ℤ) (t w : ℕ) → t ≡ 0 → floor_div (d *ℤ pos t) w ≡ pos 0
none_of d t w e = ap (λ n. floor_div (d *ℤ pos n) w) e ∙ ap (λ z. floor_div z w) (*ℤ-zero d) ∙ floor_zero w

-- a part of a rise d lies between 0 and d
pub part_up : (d : ℤ) (t w : ℕ) → pos 0 ≤ℤ d → t ≤ w → (pos 0 ≤ℤ floor_div (d *ℤ pos t) w) × (floor_div (d *ℤ pos t) w ≤ℤ d)
part_up d t zero p h = rw (none_of d t zero (omega arith)) (omega (arith, ints))
part_up d t (suc w) p h =
    let low = floor_grows (d *ℤ pos 0) (d *ℤ pos t) (suc w) (times_grows d 0 t p (omega arith)) in
    let high = floor_grows (d *ℤ pos t) (d *ℤ pos (suc w)) (suc w) (times_grows d t (suc w) p h) in
    (rw (none_of d 0 (suc w) refl) at low, rw (floor_whole d w) at high)

pub part_down : (d : ℤ) (t w : ℕ) → d ≤ℤ pos 0 → t ≤ w → (floor_div (d *ℤ pos t) w ≤ℤ pos 0) × (d ≤ℤ floor_div (d *ℤ pos t) w)
part_down d t zero p h = rw (none_of d t zero (omega arith)) (omega (arith, ints))
part_down d t (suc w) p h =
    let high = floor_grows (d *ℤ pos t) (d *ℤ pos 0) (suc w) (times_falls d 0 t p (omega arith)) in
    let low = floor_grows (d *ℤ pos (suc w)) (d *ℤ pos t) (suc w) (times_falls d t (suc w) p h) in
    (rw (none_of d 0 (suc w) refl) at high, rw (floor_whole d w) at low)

-- an order of prices that straight lines keep
pub record Way (R : ℤ → ℤ → Type 0) : Type 0 where
  pub stays : (a : ℤ) → R a a
  pub joins : (a b c : ℤ) → R a b → R b c → R a c
  pub leaves : (a b : Point) (q : ℕ) → R a.price b.price → q ≤ b.level → R a.price (between a b q)
  pub arrives : (a b : Point) (q : ℕ) → R a.price b.price → q ≤ b.level → R (between a b q) b.price
  pub moves : (a b : Point) (p q : ℕ) → R a.price b.price → p ≤ q → R (between a b p) (between a b q)

abbrev pub Falls : ℤ → ℤ → Type 0
Falls a b = b ≤ℤ a

pub rising : Way ◌≤ℤ◌
unfolding between
rising = record {
  stays = λ a. omega (arith, ints);
  joins = λ a b c h k. omega (arith, ints);
  leaves = λ a b q h l. let g = part_up (b.price -ℤ a.price) (q - a.level) (b.level - a.level) (omega (arith, ints)) (omega arith) in omega (arith, ints);
  arrives = λ a b q h l. let g = part_up (b.price -ℤ a.price) (q - a.level) (b.level - a.level) (omega (arith, ints)) (omega arith) in omega (arith, ints);
  moves = λ a b p q h l. let g = floor_grows _ _ (b.level - a.level) (times_grows (b.price -ℤ a.price) (p - a.level) (q - a.level) (omega (arith, ints)) (omega arith)) in omega (arith, ints);
}

pub falling : Way Falls
unfolding between
falling = record {
  stays = λ a. omega (arith, ints);
  joins = λ a b c h k. omega (arith, ints);
  leaves = λ a b q h l. let g = part_down (b.price -ℤ a.price) (q - a.level) (b.level - a.level) (omega (arith, ints)) (omega arith) in omega (arith, ints);
  arrives = λ a b q h l. let g = part_down (b.price -ℤ a.price) (q - a.level) (b.level - a.level) (omega (arith, ints)) (omega arith) in omega (arith, ints);
  moves = λ a b p q h l. let g = floor_grows _ _ (b.level - a.level) (times_falls (b.price -ℤ a.price) (p - a.level) (q - a.level) (omega (arith, ints)) (omega arith)) in omega (arith, ints);
}

-- prices in that order, from a on
abbrev pub Ordered : (ℤ → ℤ → Type 0) → ℤ → List Point → Type 0
Ordered R c [] = Unit {0}
Ordered R c (b ∷ ps) = R c b.price × Ordered R b.price ps

module _ (R : ℤ → ℤ → Type 0) (way : Way R) where
  past_after : (a : Point) (ps : List Point) (q : ℕ) → Ordered R a.price ps → R a.price (price_past a ps q)
  unfolding price_past
  past_after a [] q o = way.stays _
  past_after a (b ∷ ps) q o =
      cond_both (leb q b.level) _ _ (R a.price)
      (λ e. way.leaves a b q o.0 (leb-true _ _ e))
      (λ e. way.joins _ _ _ o.0 (past_after b ps q o.1))

  past_moves : (a : Point) (ps : List Point) (p q : ℕ) → Ordered R a.price ps → p ≤ q → R (price_past a ps p) (price_past a ps q)
  unfolding price_past
  past_moves a [] p q o h = way.stays _
  past_moves a (b ∷ ps) p q o h =
      cond_both (leb p b.level) _ _ (λ x. R x (price_past a (b ∷ ps) q))
      (λ e. cond_both (leb q b.level) _ _ (R (between a b p))
      (λ f. way.moves a b p q o.0 h)
      (λ f. way.joins _ _ _ (way.arrives a b p o.0 (leb-true _ _ e)) (past_after b ps q o.1)))
      (λ e. cond_both (leb q b.level) _ _ (R (price_past b ps p))
      (λ f. absurd (omega (arith, leb-true _ _ f, leb-false _ _ e)))
      (λ f. past_moves b ps p q o.1 h))

  -- the line price moves with the level as the prices of the points do
  pub line_moves : (c : ℤ) (ps : List Point) (p q : ℕ) → Ordered R c ps → p ≤ q → R (line_price ps p) (line_price ps q)
  unfolding line_price
  line_moves c [] p q o h = way.stays _
  line_moves c (a ∷ ps) p q o h =
      cond_both (leb p a.level) _ _ (λ x. R x (line_price (a ∷ ps) q))
      (λ e. cond_both (leb q a.level) _ _ (R a.price)
      (λ f. way.stays _)
      (λ f. past_after a ps q o.1))
      (λ e. cond_both (leb q a.level) _ _ (R (price_past a ps p))
      (λ f. absurd (omega (arith, leb-true _ _ f, leb-false _ _ e)))
      (λ f. past_moves a ps p q o.1 h))
