-- The line price of points: straight lines between them, flat before the first and past the last.
use Rattle.std.specs.Prelude.{ℕ, ◌-◌, cond, List, [], ◌∷◌, ℤ, pos, ◌+ℤ◌, ◌-ℤ◌, ◌*ℤ◌, nat_le}
use Rattle.shelf.specs.Quotient.{floor_div}
use Rattle.rows.specs.declared.row.Point.{Point}

-- at level q of the line from a to b: c1 + (c2 − c1)·(q − m1)/(m2 − m1)
unfoldable pub between : Point → Point → ℕ → ℤ
between a b q = a.price +ℤ floor_div ((b.price -ℤ a.price) *ℤ pos (q - a.level)) (b.level - a.level)

-- past the point a: the line to the first point at or above q, or else the last price
unfoldable pub price_past : Point → List Point → ℕ → ℤ
price_past a [] q = a.price
price_past a (b ∷ ps) q = cond (nat_le q b.level) (between a b q) (price_past b ps q)

-- the first price up to the first level; no points have the price 0
unfoldable pub line_price : List Point → ℕ → ℤ
line_price [] q = pos 0
line_price (a ∷ ps) q = cond (nat_le q a.level) a.price (price_past a ps q)
