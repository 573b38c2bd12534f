-- What rows of blocks and a block book mean.
use Rattle.std.specs.Prelude.{◌≡◌, ℕ, suc, ◌<◌, ◌≤◌, Bool, true, false, cond, ◌&&◌, List, length, get_or, take, pos, nat_le, nat_lt, slice_index_or, refl}
use Rattle.std.proofs.Common.{arith, sym}
use Rattle.std.proofs.lemmas.Int.{ints}
use Rattle.book.specs.Meaning.{Book, generator}
use Rattle.block.specs.Blocks.{blocks_of, sizes, price_from, high_of, price_at, no_block, blank}
use Rattle.block.specs.declared.row.Block.{Block}
use Rattle.block.specs.declared.row.BlockRow.{BlockRow}
use Rattle.block.specs.declared.stack.Stack.{Stack}
use Rattle.block.specs.declared.offers.BlockBook.{BlockBook}

-- n generators, each with its row: from no tenth up to the sum of its sizes, and nothing to read
abbrev pub book_of : ℕ → (ℕ → BlockRow) → Book
book_of n row = record {
  count = n;
  bus = λ i. (row i).bus;
  side = λ i. cond (nat_lt i n) generator (pos 0);
  low = λ i. 0;
  high = λ i. high_of (row i);
  reading = λ i. 0;
  price = λ i q. price_at (row i) q;
}

-- what rows mean
abbrev pub blocked : List BlockRow → Book
blocked rows = book_of (length rows) (λ i. get_or rows i blank)

-- the tenth that ends at level q lies in block k: above the blocks before it, and not above its own end
abbrev pub InBlock : List Block → ℕ → ℕ → Type 0
InBlock bs k q = (k < length bs) × (sizes (take k bs) < q) × (q ≤ sizes (take (suc k) bs))

-- each level has the price of the block that it lies in
abbrev pub Blockwise : List BlockRow → Book → Type 0
Blockwise rows m = (i k q : ℕ) → InBlock (blocks_of (slice_index_or rows i blank)) k q → m.price i q ≡ (get_or (blocks_of (slice_index_or rows i blank)) k no_block).price

cond_same : {X : Type 0} (b : Bool) (x : X) → cond b x x ≡ x
cond_same true x = refl
cond_same false x = refl

no_high : high_of blank ≡ 0
unfolding sizes
no_high = refl

no_price : (q : ℕ) → price_at blank q ≡ pos 0
unfolding price_from
no_price q = cond_same (nat_lt 0 q && nat_le q (high_of blank)) (pos 0)

-- the participant that is not there
pub nobody : Stack
nobody = record {
  row = blank;
  high = 0;
  site = omega arith;
  whole = sym no_high;
  highest = omega (arith, no_high);
  least = λ q. omega (arith, ints, no_price q);
  most = λ q. omega (arith, ints, no_price q);
  rises = λ p q h. omega (arith, ints, no_price p, no_price q);
}

-- the row of a participant, or none
abbrev pub row_at : BlockBook → ℕ → BlockRow
row_at b i = cond (nat_lt i b.stacks.count) (get_or b.stacks.items i nobody).row blank

-- what a block book means
abbrev pub offered : BlockBook → Book
offered b = book_of b.stacks.count (row_at b)
