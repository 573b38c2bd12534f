-- Laws of sums: equal and ordered terms, addition, scaling, exchange, and picking one term.
use Rattle.std.proofs.Common.{◌≡◌, ℕ, zero, suc, ◌*◌, ◌<◌, cond, eqb, ℤ, pos, ◌+ℤ◌, ◌-ℤ◌, ◌*ℤ◌, neg_ℤ, ◌≤ℤ◌, sym, refl, ap, ◌∙◌, ⊎_elim, suc-mul, arith}
use lib.IntN.{*ℤ-zero}
use Rattle.std.proofs.lemmas.Bool.{cases_eq, eq-eqb, ne_eqb, cond-true, cond-false}
use Rattle.shelf.specs.Sum.{sum}
use Rattle.shelf.proofs.Product.{lin, times_sum}

pub sum_none : (f : ℕ → ℤ) → sum 0 f ≡ pos 0
unfolding sum
sum_none f = refl

pub sum_more : (n : ℕ) (f : ℕ → ℤ) → sum (suc n) f ≡ sum n f +ℤ f n
unfolding sum
sum_more n f = refl

pub sum_same : (n : ℕ) (f g : ℕ → ℤ) → ((i : ℕ) → i < n → f i ≡ g i) → sum n f ≡ sum n g
unfolding sum
sum_same zero f g h = refl
sum_same (suc n) f g h =
    let a = sum_same n f g (λ i l. h i (omega arith)) in
    let b = h n (omega arith) in
    omega (arith, lin)

pub sum_zero : (n : ℕ) (f : ℕ → ℤ) → ((i : ℕ) → i < n → f i ≡ pos 0) → sum n f ≡ pos 0
unfolding sum
sum_zero zero f h = refl
sum_zero (suc n) f h =
    let a = sum_zero n f (λ i l. h i (omega arith)) in
    let b = h n (omega arith) in
    omega (arith, lin)

pub sum_plus : (n : ℕ) (f g : ℕ → ℤ) → sum n (λ i. f i +ℤ g i) ≡ sum n f +ℤ sum n g
unfolding sum
sum_plus zero f g = refl
sum_plus (suc n) f g = let a = sum_plus n f g in omega (arith, lin)

pub sum_minus : (n : ℕ) (f g : ℕ → ℤ) → sum n (λ i. f i -ℤ g i) ≡ sum n f -ℤ sum n g
unfolding sum
sum_minus zero f g = refl
sum_minus (suc n) f g = let a = sum_minus n f g in omega (arith, lin)

pub sum_neg : (n : ℕ) (f : ℕ → ℤ) → sum n (λ i. neg_ℤ (f i)) ≡ neg_ℤ (sum n f)
unfolding sum
sum_neg zero f = refl
sum_neg (suc n) f = let a = sum_neg n f in omega (arith, lin)

pub sum_times : (n : ℕ) (c : ℤ) (f : ℕ → ℤ) → sum n (λ i. c *ℤ f i) ≡ c *ℤ sum n f
unfolding sum
sum_times zero c f = sym (*ℤ-zero c)
sum_times (suc n) c f =
    let a = sum_times n c f in
    let b = times_sum c (sum n f) (f n) in
    omega (arith, lin)

-- two sums may be exchanged
pub sum_swap : (n m : ℕ) (f : ℕ → ℕ → ℤ) → sum n (λ i. sum m (λ j. f i j)) ≡ sum m (λ j. sum n (λ i. f i j))
unfolding sum
sum_swap zero m f = sym (sum_zero m (λ j. pos 0) (λ i l. refl))
sum_swap (suc n) m f =
    let a = sum_swap n m f in
    let b = sum_plus m (λ j. sum n (λ i. f i j)) (λ j. f n j) in
    omega (arith, lin)

-- one term alone is left where all others are 0
pub sum_pick : (n k : ℕ) (f : ℕ → ℤ) → k < n → sum n (λ i. cond (eqb k i) (f i) (pos 0)) ≡ f k
unfolding sum
sum_pick zero k f h = absurd (omega arith)
sum_pick (suc n) k f h =
    ⊎_elim
    (λ e.
    let rest = sum_zero n (λ i. cond (eqb k i) (f i) (pos 0)) (λ i l. cond-false _ _ _ (ne_eqb k i (λ s. omega arith))) in
    let here : cond (eqb k n) (f n) (pos 0) ≡ f k = cond-true _ _ _ (eq-eqb k n e) ∙ sym (ap f e) in
    omega (arith, lin))
    (λ ne.
    let rest = sum_pick n k f (omega arith) in
    let here : cond (eqb k n) (f n) (pos 0) ≡ pos 0 = cond-false _ _ _ (ne_eqb k n ne) in
    omega (arith, lin))
    (cases_eq k n)

-- ordered terms have ordered sums
pub sum_keeps : (n : ℕ) (f g : ℕ → ℤ) → ((i : ℕ) → i < n → f i ≤ℤ g i) → sum n f ≤ℤ sum n g
unfolding sum
sum_keeps zero f g h = omega (arith, lin)
sum_keeps (suc n) f g h =
    let a = sum_keeps n f g (λ i l. h i (omega arith)) in
    let b = h n (omega arith) in
    omega (arith, lin)

-- terms from −b to b sum to no more than n·b either way
pub sum_most : (n b : ℕ) (f : ℕ → ℤ) → ((i : ℕ) → i < n → f i ≤ℤ pos b) → sum n f ≤ℤ pos (n * b)
unfolding sum
sum_most zero b f h = omega (arith, lin)
sum_most (suc n) b f h =
    let a = sum_most n b f (λ i l. h i (omega arith)) in
    let c = h n (omega arith) in
    let e = suc-mul n b in
    omega (arith, lin)

pub sum_least : (n b : ℕ) (f : ℕ → ℤ) → ((i : ℕ) → i < n → neg_ℤ (pos b) ≤ℤ f i) → neg_ℤ (pos (n * b)) ≤ℤ sum n f
unfolding sum
sum_least zero b f h = omega (arith, lin)
sum_least (suc n) b f h =
    let a = sum_least n b f (λ i l. h i (omega arith)) in
    let c = h n (omega arith) in
    let e = suc-mul n b in
    omega (arith, lin)

-- a sum of numbers that are not negative is not negative, and is 0 only where each of them is
pub sum_positive : (n : ℕ) (f : ℕ → ℤ) → ((i : ℕ) → i < n → pos 0 ≤ℤ f i) → pos 0 ≤ℤ sum n f
unfolding sum
sum_positive zero f h = omega (arith, lin)
sum_positive (suc n) f h =
    let a = sum_positive n f (λ i l. h i (omega arith)) in
    let b = h n (omega arith) in
    omega (arith, lin)

pub sum_nothing : (n : ℕ) (f : ℕ → ℤ) → ((i : ℕ) → i < n → pos 0 ≤ℤ f i) → sum n f ≡ pos 0 → (i : ℕ) → i < n → f i ≡ pos 0
unfolding sum
sum_nothing zero f h e i l = absurd (omega arith)
sum_nothing (suc n) f h e i l =
    let a = sum_positive n f (λ j k. h j (omega arith)) in
    let b = h n (omega arith) in
    ⊎_elim
    (λ s. let last : f n ≡ pos 0 = omega (arith, lin) in ap f s ∙ last)
    (λ ne. let rest : sum n f ≡ pos 0 = omega (arith, lin) in sum_nothing n f (λ j k. h j (omega arith)) rest i (omega arith))
    (cases_eq i n)
