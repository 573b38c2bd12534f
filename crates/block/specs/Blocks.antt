-- The levels and the prices of a row of blocks.
use Rattle.std.specs.Prelude.{ℕ, ◌+◌, cond, ◌&&◌, List, [], ◌∷◌, ℤ, pos, nat_le, nat_lt}
use Rattle.given.specs.Kept.{kept}
use Rattle.block.specs.declared.row.Block.{Block}
use Rattle.block.specs.declared.row.BlockRow.{BlockRow}

-- the submitted blocks of a row
abbrev pub blocks_of : BlockRow → List Block
blocks_of r = kept r.blocks.count r.blocks.items

-- the sum of the sizes
unfoldable pub sizes : List Block → ℕ
sizes [] = 0
sizes (b ∷ bs) = b.size + sizes bs

-- the price at level q of the first block that ends at or above q, where the blocks begin at level m
unfoldable pub price_from : ℕ → List Block → ℕ → ℤ
price_from m [] q = pos 0
price_from m (b ∷ bs) q = cond (nat_le q (m + b.size)) b.price (price_from (m + b.size) bs q)

abbrev pub block_price : List Block → ℕ → ℤ
block_price bs q = price_from 0 bs q

-- the greatest level of a row
abbrev pub high_of : BlockRow → ℕ
high_of r = sizes (blocks_of r)

-- a row's price at level q: 0 unless q is one of its levels
abbrev pub price_at : BlockRow → ℕ → ℤ
price_at r q = cond (nat_lt 0 q && nat_le q (high_of r)) (block_price (blocks_of r) q) (pos 0)

-- no block
abbrev pub no_block : Block
no_block = record { size = 0; price = pos 0 }

-- no row: bus 0 and no blocks
abbrev pub blank : BlockRow
blank = record { bus = 0; blocks = record { count = 0; items = [] } }
