-- A row that keeps the rules has levels and prices within bounds, and prices that never fall.
use Rattle.std.proofs.Common.{◌≡◌, ℕ, ◌+◌, ◌<◌, ◌≤◌, true, ◌&&◌, ltb, leb, List, [], ◌∷◌, ℤ, pos, ◌≤ℤ◌, ap, not, arith}
use lib.Signed.{le_z}
use Rattle.std.proofs.lemmas.Int.{ints}
use Rattle.std.proofs.lemmas.Bool.{and_parts, and_from, not-false, lt-ltb, le-leb, leb-true, leb-false, ltb-true, ltb-false, cond_both, cond-true}
use Rattle.book.specs.Meaning.{least_price, most_price}
use Rattle.block.specs.Blocks.{sizes, price_from, block_price, blocks_of, high_of, price_at}
use Rattle.block.specs.Rules.{Kept, sized, prices_from}
use Rattle.block.specs.declared.row.Block.{Block}
use Rattle.block.specs.declared.row.BlockRow.{BlockRow}
use Rattle.block.specs.declared.rule.Rule.TheVariants.{Bus, Count, Sizes, Prices}

is_le : (a b : ℤ) → le_z a b ≡ true → a ≤ℤ b
is_le a b e = omega (arith, ints)

-- what the rule on prices says of the first block and of the rest
order_parts : (lo hi : ℤ) (b : Block) (bs : List Block) → prices_from lo hi (b ∷ bs) ≡ true → (lo ≤ℤ b.price) × (b.price ≤ℤ hi) × (prices_from b.price hi bs ≡ true)
unfolding prices_from
order_parts lo hi b bs e =
    let both = and_parts _ _ e in
    let ends = and_parts _ _ both.0 in
    (is_le lo b.price ends.0, is_le b.price hi ends.1, both.1)

at_most : (lo hi : ℤ) (bs : List Block) (m q : ℕ) → pos 0 ≤ℤ hi → prices_from lo hi bs ≡ true → price_from m bs q ≤ℤ hi
unfolding price_from
at_most lo hi [] m q h e = h
at_most lo hi (b ∷ bs) m q h e =
    let o = order_parts lo hi b bs e in
    cond_both (leb q (m + b.size)) _ _ (λ c. c ≤ℤ hi) (λ t. o.1) (λ t. at_most b.price hi bs (m + b.size) q h o.2)

-- at a level of the blocks
at_least : (lo hi : ℤ) (bs : List Block) (m q : ℕ) → m < q → q ≤ m + sizes bs → prices_from lo hi bs ≡ true → lo ≤ℤ price_from m bs q
unfolding price_from sizes
at_least lo hi [] m q a z e = absurd (omega arith)
at_least lo hi (b ∷ bs) m q a z e =
    let o = order_parts lo hi b bs e in
    cond_both (leb q (m + b.size)) _ _ (λ c. lo ≤ℤ c) (λ t. o.0)
    (λ t. let l = leb-false _ _ t in let g = at_least b.price hi bs (m + b.size) q l (omega arith) o.2 in let f = o.0 in omega (arith, ints))

never_falls : (lo hi : ℤ) (bs : List Block) (m p q : ℕ) → p ≤ q → q ≤ m + sizes bs → prices_from lo hi bs ≡ true → price_from m bs p ≤ℤ price_from m bs q
unfolding price_from sizes
never_falls lo hi [] m p q h z e = omega (arith, ints)
never_falls lo hi (b ∷ bs) m p q h z e =
    let o = order_parts lo hi b bs e in
    cond_both (leb p (m + b.size)) _ _ (λ c. c ≤ℤ price_from m (b ∷ bs) q)
    (λ s. cond_both (leb q (m + b.size)) _ _ (λ c. b.price ≤ℤ c)
    (λ t. omega (arith, ints))
    (λ t. at_least b.price hi bs (m + b.size) q (leb-false _ _ t) (omega arith) o.2))
    (λ s. cond_both (leb q (m + b.size)) _ _ (λ c. price_from (m + b.size) bs p ≤ℤ c)
    (λ t. absurd (omega (arith, leb-false _ _ s, leb-true _ _ t)))
    (λ t. never_falls b.price hi bs (m + b.size) p q h (omega arith) o.2))

-- what every row of a book owes
pub record Sound (r : BlockRow) : Type 0 where
  pub site : r.bus ≤ 63
  pub highest : high_of r ≤ 20000
  pub least : (q : ℕ) → least_price ≤ℤ price_at r q
  pub most : (q : ℕ) → price_at r q ≤ℤ most_price
  pub rises : (p q : ℕ) → (0 < p) × (p ≤ q) × (q ≤ high_of r) → price_at r p ≤ℤ price_at r q

pub at_level : (r : BlockRow) (q : ℕ) → 0 < q → q ≤ high_of r → price_at r q ≡ block_price (blocks_of r) q
at_level r q a z = cond-true _ _ _ (and_from _ _ (lt-ltb _ _ a) (le-leb _ _ z))

pub sound : (r : BlockRow) → Kept r → Sound r
sound r kept =
    let order : prices_from least_price most_price (blocks_of r) ≡ true = not-false _ (kept Prices) in
    record {
      site = ltb-false _ _ (kept Bus);
      highest = leb-true _ _ (and_parts _ _ (not-false _ (kept Sizes))).1;
      least = λ q. cond_both (ltb 0 q && leb q (high_of r)) _ _ (λ c. least_price ≤ℤ c)
          (λ t. let both = and_parts (ltb 0 q) (leb q (high_of r)) t in at_least least_price most_price (blocks_of r) 0 q (ltb-true _ _ both.0) (omega (arith, leb-true q (high_of r) both.1)) order)
          (λ t. omega (arith, ints));
      most = λ q. cond_both (ltb 0 q && leb q (high_of r)) _ _ (λ c. c ≤ℤ most_price)
          (λ t. at_most least_price most_price (blocks_of r) 0 q (omega (arith, ints)) order)
          (λ t. omega (arith, ints));
      rises = λ p q h. rw (at_level r p h.0 (omega arith), at_level r q (omega arith) h.2) (never_falls least_price most_price (blocks_of r) 0 p q h.1 (omega arith) order);
    }

-- a row without blocks keeps the rules
pub empty_kept : (r : BlockRow) → r.bus ≡ 0 → r.blocks.count ≡ 0 → blocks_of r ≡ [] → Kept r
unfolding sizes sized prices_from
empty_kept r bus count none = elim [
  | Bus ↦ ap (λ n. ltb 63 n) bus
  | Count ↦ ap (λ n. ltb 10 n) count
  | Sizes ↦ ap (λ bs. not (sized bs && leb (sizes bs) 20000)) none
  | Prices ↦ ap (λ bs. not (prices_from least_price most_price bs)) none
]
