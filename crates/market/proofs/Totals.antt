-- Sums that a loop adds up, each part within a bound.
use Rattle.std.proofs.Common.{◌≡◌, ℕ, ◌+◌, ◌*◌, ℤ, pos, ◌+ℤ◌, neg_ℤ, ◌≤ℤ◌, sym, subst, add-one, arith}
use Rattle.std.proofs.lemmas.Int.{ints}
use Rattle.shelf.specs.Sum.{sum}
use Rattle.shelf.proofs.Sum.{sum_none, sum_more}

-- t is the sum of the first n parts, and no part is above b either way
pub record Total (b : ℕ) (f : ℕ → ℤ) (n : ℕ) (t : ℤ) : Type 0 where
  pub value : t ≡ sum n f
  pub least : neg_ℤ (pos (n * b)) ≤ℤ t
  pub most : t ≤ℤ pos (n * b)

pub none : (b : ℕ) (f : ℕ → ℤ) → Total b f 0 (pos 0)
none b f = record { value = sym (sum_none f); least = omega (arith, ints); most = omega (arith, ints) }

-- one part more
pub more : (b : ℕ) (f : ℕ → ℤ) (n : ℕ) (t r u : ℤ) → Total b f n t → r ≡ f n → neg_ℤ (pos b) ≤ℤ r → r ≤ℤ pos b → u ≡ t +ℤ r → Total b f (n + 1) u
more b f n t r u so_far part least most is =
    let next : sum (n + 1) f ≡ sum n f +ℤ f n = rw add-one (sum_more n f) in
    let v = so_far.value in
    let l = so_far.least in
    let h = so_far.most in
    record { value = omega (arith, ints); least = omega (arith, ints); most = omega (arith, ints) }

-- the same, where the next number is known by an equation
pub more_to : (b : ℕ) (f : ℕ → ℤ) (n k : ℕ) (t r u : ℤ) → Total b f n t → k ≡ n + 1 → r ≡ f n → neg_ℤ (pos b) ≤ℤ r → r ≤ℤ pos b → u ≡ t +ℤ r → Total b f k u
more_to b f n k t r u so_far e part least most is = subst (λ j. Total b f j u) (sym e) (more b f n t r u so_far part least most is)

pub none_at : (b : ℕ) (f : ℕ → ℤ) (n : ℕ) → n ≡ 0 → Total b f n (pos 0)
none_at b f n e = subst (λ j. Total b f j (pos 0)) (sym e) (none b f)
