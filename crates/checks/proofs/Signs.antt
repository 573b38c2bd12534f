-- Tests of integers, and the orders that they decide.
use Rattle.std.proofs.Common.{◌≡◌, true, false, ℤ, ◌≤ℤ◌, subst, ⊎_elim, arith}
use lib.Signed.{le_z, lt_z, ≤ℤ_refl}
use Rattle.std.proofs.lemmas.Int.{ints}
use Rattle.std.proofs.lemmas.Bool.{and_parts, and_from, cases_Bool}
use Rattle.checks.specs.Causes.{same}

pub at_most : (a b : ℤ) → a ≤ℤ b → le_z a b ≡ true
at_most a b h = grind (arith, ints)

pub most_at : (a b : ℤ) → le_z a b ≡ true → a ≤ℤ b
most_at a b e = omega (arith, ints)

pub not_above : (a b : ℤ) → lt_z b a ≡ false → a ≤ℤ b
not_above a b e = omega (arith, ints)

pub above_not : (a b : ℤ) → a ≤ℤ b → lt_z b a ≡ false
above_not a b h = grind (arith, ints)

pub same_is : (a b : ℤ) → same a b ≡ true → a ≡ b
same_is a b e =
    let both = and_parts (le_z a b) (le_z b a) e in
    let l = most_at a b both.0 in
    let h = most_at b a both.1 in
    omega (arith, ints)

pub is_same : (a b : ℤ) → a ≡ b → same a b ≡ true
is_same a b e =
    and_from (le_z a b) (le_z b a)
    (at_most a b (subst (λ z. a ≤ℤ z) e (≤ℤ_refl a)))
    (at_most b a (subst (λ z. z ≤ℤ a) e (≤ℤ_refl a)))

pub not_same : (a b : ℤ) → (a ≡ b → ⊥) → same a b ≡ false
not_same a b ne = ⊎_elim (λ e. absurd (ne (same_is a b e))) (λ e. e) (cases_Bool (same a b))
