-- A table whose places have the rows means what the rows mean, block by block.
use Rattle.std.proofs.Common.{◌≡◌, ℕ, zero, suc, ◌+◌, ◌<◌, ◌≤◌, cond, ltb, List, [], ◌∷◌, length, get_or, take, sym, ap, ◌∙◌, arith}
use mathlib.Core.Path.{fun_ext}
use Rattle.std.proofs.lemmas.List.{get_or_past}
use Rattle.std.proofs.lemmas.Bool.{cond_both, cond-true, cond-false, le-leb, lt-leb, ltb-true, ltb-false}
use Rattle.block.specs.Blocks.{blocks_of, sizes, price_from, no_block, blank}
use Rattle.block.specs.Offers.{book_of, blocked, Blockwise, nobody}
use Rattle.block.specs.declared.row.Block.{Block}
use Rattle.block.specs.declared.row.BlockRow.{BlockRow}
use Rattle.block.specs.declared.stack.Stack.{Stack}
use Rattle.block.proofs.Sound.{at_level}

pub same_book : (n : ℕ) (stacks : List Stack) (rows : List BlockRow) → n ≡ length rows → ((i : ℕ) → i < length rows → (get_or stacks i nobody).row ≡ get_or rows i blank) → book_of n (λ i. cond (ltb i n) (get_or stacks i nobody).row blank) ≡ blocked rows
same_book n stacks rows count same =
    rw count (ap (book_of (length rows)) (fun_ext (λ i.
    cond_both (ltb i (length rows)) _ _ (λ r. r ≡ get_or rows i blank)
    (λ t. same i (ltb-true _ _ t))
    (λ t. sym (get_or_past rows i blank (ltb-false _ _ t))))))

within : (bs : List Block) (k : ℕ) → sizes (take k bs) ≤ sizes bs
unfolding sizes
within [] zero = omega arith
within [] (suc k) = omega arith
within (b ∷ bs) zero = omega arith
within (b ∷ bs) (suc k) = omega (arith, within bs k)

-- blocks that begin at level m
price_of_is : (bs : List Block) (m k q : ℕ) → k < length bs → m + sizes (take k bs) < q → q ≤ m + sizes (take (suc k) bs) → price_from m bs q ≡ (get_or bs k no_block).price
unfolding sizes price_from
price_of_is [] m k q h a z = absurd (omega arith)
price_of_is (b ∷ bs) m zero q h a z = cond-true _ _ _ (le-leb q (m + b.size) (omega arith))
price_of_is (b ∷ bs) m (suc k) q h a z =
    cond-false _ _ _ (lt-leb q (m + b.size) (omega arith)) ∙ price_of_is bs (m + b.size) k q (omega arith) (omega arith) (omega arith)

pub blockwise : (rows : List BlockRow) → Blockwise rows (blocked rows)
blockwise rows i k q h =
    let bs = blocks_of (get_or rows i blank) in
    at_level (get_or rows i blank) q (omega arith) (omega (arith, within bs (suc k)))
    ∙ price_of_is bs 0 k q h.0 (omega arith) (omega arith)
