-- The greatest sum of a front of values that never rise.
use Rattle.std.proofs.Common.{◌≡◌, ℕ, zero, suc, ◌-◌, ◌<◌, ◌≤◌, ℤ, pos, ◌≤ℤ◌, sym, ap, ⊎_elim, arith}
use Rattle.std.proofs.lemmas.Int.{ints, clamps}
use Rattle.std.proofs.lemmas.Bool.{cases_lt, cases_eq}
use Rattle.std.specs.Int.{int_max}
use Rattle.shelf.specs.Sum.{sum}
use Rattle.shelf.proofs.Product.{lin}
use Rattle.shelf.proofs.Sum.{sum_more}
use Rattle.market.specs.Best.{best}

max_left : (a b : ℤ) → a ≤ℤ int_max a b
max_left a b = omega (arith, ints, clamps)

max_right : (a b : ℤ) → b ≤ℤ int_max a b
max_right a b = omega (arith, ints, clamps)

max_most : (a b c : ℤ) → a ≤ℤ c → b ≤ℤ c → int_max a b ≤ℤ c
max_most a b c h k = omega (arith, ints, clamps)

-- no front is greater than the greatest
pub front_least : (n k : ℕ) (f : ℕ → ℤ) → k ≤ n → sum k f ≤ℤ best n f
unfolding best sum
front_least zero zero f h = omega (arith, lin)
front_least zero (suc k) f h = absurd (omega arith)
front_least (suc n) k f h =
    ⊎_elim
    (λ e. let r = max_right (best n f) (sum (suc n) f) in let s : sum k f ≡ sum (suc n) f = ap (λ j. sum j f) e in omega (arith, lin))
    (λ ne. let r = max_left (best n f) (sum (suc n) f) in let i = front_least n k f (omega arith) in omega (arith, lin))
    (cases_eq k (suc n))

-- what no front passes, the greatest does not pass
pub front_most : (n : ℕ) (f : ℕ → ℤ) (z : ℤ) → ((k : ℕ) → k ≤ n → sum k f ≤ℤ z) → best n f ≤ℤ z
unfolding best sum
front_most zero f z h = h zero (omega arith)
front_most (suc n) f z h = max_most (best n f) (sum (suc n) f) z (front_most n f z (λ k l. h k (omega arith))) (h (suc n) (omega arith))

-- values that are not negative add up, and values that are not positive wear off
pub sum_up : (k n : ℕ) (f : ℕ → ℤ) → k ≤ n → ((t : ℕ) → k ≤ t → t < n → pos 0 ≤ℤ f t) → sum k f ≤ℤ sum n f
unfolding sum
sum_up k zero f h p = let z : k ≡ 0 = omega arith in let e : sum k f ≡ sum 0 f = ap (λ j. sum j f) z in omega (arith, lin)
sum_up k (suc n) f h p =
    ⊎_elim
    (λ e. let s : sum k f ≡ sum (suc n) f = ap (λ j. sum j f) e in omega (arith, lin))
    (λ ne. let i = sum_up k n f (omega arith) (λ t a b. p t a (omega arith)) in let q = p n (omega arith) (omega arith) in omega (arith, lin))
    (cases_eq k (suc n))

pub sum_down : (k n : ℕ) (f : ℕ → ℤ) → k ≤ n → ((t : ℕ) → k ≤ t → t < n → f t ≤ℤ pos 0) → sum n f ≤ℤ sum k f
unfolding sum
sum_down k zero f h p = let z : k ≡ 0 = omega arith in let e : sum k f ≡ sum 0 f = ap (λ j. sum j f) z in omega (arith, lin)
sum_down k (suc n) f h p =
    ⊎_elim
    (λ e. let s : sum k f ≡ sum (suc n) f = ap (λ j. sum j f) e in omega (arith, lin))
    (λ ne. let i = sum_down k n f (omega arith) (λ t a b. p t a (omega arith)) in let q = p n (omega arith) (omega arith) in omega (arith, lin))
    (cases_eq k (suc n))

-- of values that never rise, a front that ends at the last value that is not negative is the greatest
pub front_reached : (n k : ℕ) (f : ℕ → ℤ) → k ≤ n → ((t u : ℕ) → t ≤ u → u < n → f u ≤ℤ f t) → ((t : ℕ) → suc t ≡ k → pos 0 ≤ℤ f t) → (k < n → f k ≤ℤ pos 0) → best n f ≡ sum k f
front_reached n k f h falls last next =
    let low = front_least n k f h in
    let high = front_most n f (sum k f) each in
    omega (arith, lin)
  where
    each : (j : ℕ) → j ≤ n → sum j f ≤ℤ sum k f
    each j l =
        ⊎_elim
        (λ b. sum_up j k f (omega arith) (λ t a c.
        let e : suc (k - 1) ≡ k = omega arith in
        let g = last (k - 1) e in
        let r = falls t (k - 1) (omega arith) (omega arith) in
        omega (arith, lin)))
        (λ b. sum_down k j f b (λ t a c.
        let g = next (omega arith) in
        let r = falls k t a (omega arith) in
        omega (arith, lin)))
        (cases_lt j k)

-- and the other way round
pub front_last : (n k : ℕ) (f : ℕ → ℤ) → k ≤ n → best n f ≡ sum k f → (t : ℕ) → suc t ≡ k → pos 0 ≤ℤ f t
front_last n k f h e t s =
    let a = front_least n t f (omega arith) in
    let b = sum_more t f in
    let c : sum k f ≡ sum (suc t) f = ap (λ j. sum j f) (sym s) in
    omega (arith, lin)

pub front_next : (n k : ℕ) (f : ℕ → ℤ) → best n f ≡ sum k f → k < n → f k ≤ℤ pos 0
front_next n k f e h =
    let a = front_least n (suc k) f h in
    let b = sum_more k f in
    omega (arith, lin)
