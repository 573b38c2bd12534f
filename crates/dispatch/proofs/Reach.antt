-- Lists in a table that has room for them, and bounds on each of their numbers.
use Rattle.std.proofs.Common.{◌≡◌, ℕ, zero, suc, ◌≤◌, true, leb, List, [], ◌∷◌, ◌++◌, length, get_or, take, ap, ◌∙◌, arith}
use Rattle.std.proofs.lemmas.Bool.{and_parts, leb-true}
use Rattle.std.proofs.lemmas.List.{take_all}
use Rattle.std.specs.List.{list_all}
use Rattle.dispatch.specs.Base.{reachable}

-- a list put into an empty table that has room for it
pub whole : {X : Type 0} (n : ℕ) {was now : List X} (xs : List X) → was ≡ [] → now ≡ take n (was ++ xs) → length xs ≤ n → now ≡ xs
whole n xs e put few = put ∙ ap (λ l. take n (l ++ xs)) e ∙ take_all n xs few

-- numbers that are each at most a bound
pub all_within : (most : ℕ) (xs : List ℕ) → list_all (λ x. leb x most) xs ≡ true → (i : ℕ) → get_or xs i 0 ≤ most
all_within most [] e i = omega arith
all_within most (x ∷ xs) e zero = leb-true x most (and_parts (leb x most) (list_all (λ x. leb x most) xs) e).0
all_within most (x ∷ xs) e (suc i) = all_within most xs (and_parts (leb x most) (list_all (λ x. leb x most) xs) e).1 i

pub reachable_each : (xs : List ℕ) → reachable xs ≡ true → (i : ℕ) → get_or xs i 0 ≤ 20000
unfolding reachable
reachable_each xs e i = all_within 20000 xs e i
