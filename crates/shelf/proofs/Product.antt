-- Products of integers: distribution, association, and signs.
use Rattle.std.proofs.Common.{◌≡◌, ℕ, suc, ◌*◌, ◌≤◌, ℤ, pos, negsuc, ◌+ℤ◌, ◌-ℤ◌, ◌*ℤ◌, neg_ℤ, ◌≤ℤ◌, sym, ap, ◌∙◌, mul_assoc, add-mul, mul-le-mul, mul-add, arith}
use lib.IntN.{*ℤ_comm}
use borrow.Author.Differences.{up, down, same_out, same_in, lt_out, le_out, below_in, at_most_in, sum_is_lem, neg_is, product_is}

-- linear facts over ℤ, where a product or any other call is one unknown
pub ruleset lin = (same_out, same_in, lt_out, le_out, below_in, at_most_in, sum_is_lem, neg_is)

-- a·(b + c) = a·b + a·c
pub times_sum : (a b c : ℤ) → a *ℤ (b +ℤ c) ≡ (a *ℤ b) +ℤ (a *ℤ c)
times_sum a b c =
    let s = sum_is_lem b c in
    let u = simp mul-add at (ap (λ n. up a * n) s) in
    let d = simp mul-add at (ap (λ n. down a * n) s) in
    let x = product_is a (b +ℤ c) in
    let y = product_is a b in
    let z = product_is a c in
    omega (arith, lin)

-- (a + b)·c = a·c + b·c
pub sum_times : (a b c : ℤ) → (a +ℤ b) *ℤ c ≡ (a *ℤ c) +ℤ (b *ℤ c)
sum_times a b c = *ℤ_comm (a +ℤ b) c ∙ times_sum c a b ∙ (rw (*ℤ_comm c a, *ℤ_comm c b))

pub times_neg : (a b : ℤ) → a *ℤ neg_ℤ b ≡ neg_ℤ (a *ℤ b)
times_neg a b =
    let x = product_is a (neg_ℤ b) in
    let y = product_is a b in
    let n = neg_is b in
    let m = neg_is (a *ℤ b) in
    let p = ap (λ t. up a * t) n.0 in
    let q = ap (λ t. up a * t) n.1 in
    let r = ap (λ t. down a * t) n.0 in
    let s = ap (λ t. down a * t) n.1 in
    omega (arith, lin)

pub neg_times : (a b : ℤ) → neg_ℤ a *ℤ b ≡ neg_ℤ (a *ℤ b)
neg_times a b = *ℤ_comm (neg_ℤ a) b ∙ times_neg b a ∙ ap neg_ℤ (*ℤ_comm b a)

-- a·(b − c) = a·b − a·c
pub times_minus : (a b c : ℤ) → a *ℤ (b -ℤ c) ≡ (a *ℤ b) -ℤ (a *ℤ c)
times_minus a b c = times_sum a b (neg_ℤ c) ∙ ap (λ z. (a *ℤ b) +ℤ z) (times_neg a c)

pub minus_times : (a b c : ℤ) → (a -ℤ b) *ℤ c ≡ (a *ℤ c) -ℤ (b *ℤ c)
minus_times a b c = sum_times a (neg_ℤ b) c ∙ ap (λ z. (a *ℤ c) +ℤ z) (neg_times b c)

-- (a·b)·c = a·(b·c)
pub times_assoc : (a b c : ℤ) → (a *ℤ b) *ℤ c ≡ a *ℤ (b *ℤ c)
times_assoc a b c =
    let x = product_is (a *ℤ b) c in
    let y = product_is a (b *ℤ c) in
    let p = product_is a b in
    let q = product_is b c in
    let xu = simp (p.0, p.1, add-mul, mul_assoc) at x.0 in
    let xd = simp (p.0, p.1, add-mul, mul_assoc) at x.1 in
    let yu = simp (q.0, q.1, mul-add) at y.0 in
    let yd = simp (q.0, q.1, mul-add) at y.1 in
    omega (arith, lin)

pub times_left : (a b c : ℤ) → a *ℤ (b *ℤ c) ≡ b *ℤ (a *ℤ c)
times_left a b c = sym (times_assoc a b c) ∙ ap (λ z. z *ℤ c) (*ℤ_comm a b) ∙ times_assoc b a c

-- a product of numbers that are not negative is not negative
pub times_positive : (a b : ℤ) → pos 0 ≤ℤ a → pos 0 ≤ℤ b → pos 0 ≤ℤ (a *ℤ b)
times_positive (pos a) (pos b) h k = omega (arith, lin)
times_positive (pos a) (negsuc b) h k = absurd (omega (arith, lin))
times_positive (negsuc a) b h k = absurd (omega (arith, lin))

-- a factor that is not negative keeps an order
pub times_keeps : (a b c : ℤ) → pos 0 ≤ℤ a → b ≤ℤ c → (a *ℤ b) ≤ℤ (a *ℤ c)
times_keeps a b c h k =
    let p = times_positive a (c -ℤ b) h (omega (arith, lin)) in
    let e = times_minus a c b in
    omega (arith, lin)

-- a product of numbers within ±m and ±n is within ±m·n
pub times_within : (a b : ℤ) (m n : ℕ) → neg_ℤ (pos m) ≤ℤ a → a ≤ℤ pos m → neg_ℤ (pos n) ≤ℤ b → b ≤ℤ pos n → (neg_ℤ (pos (m * n)) ≤ℤ (a *ℤ b)) × ((a *ℤ b) ≤ℤ pos (m * n))
times_within (pos a) (pos b) m n h i j k =
    let p : a ≤ m = omega (arith, lin) in let q : b ≤ n = omega (arith, lin) in let r = mul-le-mul p q in (omega (arith, lin), omega (arith, lin))
times_within (pos a) (negsuc b) m n h i j k =
    let p : a ≤ m = omega (arith, lin) in let q : suc b ≤ n = omega (arith, lin) in let r = mul-le-mul p q in (omega (arith, lin), omega (arith, lin))
times_within (negsuc a) (pos b) m n h i j k =
    let p : suc a ≤ m = omega (arith, lin) in let q : b ≤ n = omega (arith, lin) in let r = mul-le-mul p q in (omega (arith, lin), omega (arith, lin))
times_within (negsuc a) (negsuc b) m n h i j k =
    let p : suc a ≤ m = omega (arith, lin) in let q : suc b ≤ n = omega (arith, lin) in let r = mul-le-mul p q in (omega (arith, lin), omega (arith, lin))

pub times_one : (a : ℤ) → a *ℤ pos 1 ≡ a
times_one a = let p = product_is a (pos 1) in omega (arith, lin)
