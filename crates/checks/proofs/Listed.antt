-- Lists of which each number is small enough.
use Rattle.std.proofs.Common.{◌≡◌, ℕ, suc, ◌<◌, ◌≤◌, true, false, leb, ltb, List, [], ◌∷◌, length, get_or, ℤ, pos, negsuc, None, refl, arith}
use lib.Signed.{lt_z}
use Rattle.std.specs.List.{list_all}
use Rattle.std.proofs.lemmas.Bool.{and_from, le-leb, ltb-false, or_parts}
use Rattle.book.specs.Meaning.{Book}
use Rattle.dispatch.specs.Base.{reachable}
use Rattle.market.specs.Quoted.{payable, quotable}
use Rattle.checks.specs.Causes.{dear, outside}
use Rattle.feasible.specs.First.{first_place}
use Rattle.checks.specs.Pointed.{pointed}
use Rattle.checks.proofs.First.{nowhere_first}
use Rattle.checks.proofs.Signs.{at_most, not_above}

-- numbers that are each at most a bound pass a test of all
all_at_most : (most : ℕ) (xs : List ℕ) → ((k : ℕ) → k < length xs → get_or xs k 0 ≤ most) → list_all (λ x. leb x most) xs ≡ true
all_at_most most [] h = refl
all_at_most most (x ∷ xs) h = and_from _ _ (le-leb x most (h 0 (omega arith))) (all_at_most most xs (λ k l. h (suc k) (omega arith)))

none_dear : (us : List ℕ) → first_place (dear us) (length us) ≡ None → payable us ≡ true
unfolding payable
none_dear us none = all_at_most 1000000 us (λ k l. ltb-false 1000000 (get_or us k 0) (nowhere_first (dear us) (length us) none k l))

pub none_outside : (m : Book) (xs : List ℕ) → ((i : ℕ) → m.high i ≤ 20000) → first_place (outside m (pointed xs)) (length xs) ≡ None → reachable xs ≡ true
unfolding reachable
none_outside m xs highest none =
    all_at_most 20000 xs (λ k l.
    let within = or_parts (ltb (get_or xs k 0) (m.low k)) (ltb (m.high k) (get_or xs k 0)) (nowhere_first (outside m (pointed xs)) (length xs) none k l) in
    let above = ltb-false (m.high k) (get_or xs k 0) within.1 in
    let top = highest k in
    omega arith)

-- prices within their ranges can be quoted
pub all_quotable : (y : ℤ) (us : List ℕ) → lt_z y (negsuc 999999) ≡ false → lt_z (pos 1000000) y ≡ false → length us ≤ 32 → first_place (dear us) (length us) ≡ None → quotable y us ≡ true
all_quotable y us low high few none =
    and_from _ _ (and_from _ _ (and_from _ _ (at_most (negsuc 999999) y (not_above (negsuc 999999) y low)) (at_most y (pos 1000000) (not_above y (pos 1000000) high))) (le-leb _ _ few)) (none_dear us none)
