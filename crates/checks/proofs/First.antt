-- The first place at which a test is true: found, or nowhere.
use Rattle.std.proofs.Common.{◌≡◌, ℕ, zero, suc, ◌<◌, ◌≤◌, Bool, true, false, cond, List, length, get_or, Some, None, Option, MatchOption, refl, sym, ap, ◌∙◌, subst, ⊎_elim, arith}
use Rattle.std.specs.List.{AllWithin, HoldsAt}
use Rattle.std.proofs.lemmas.Bool.{cases_eq, cases_Bool, cond-true, cond-false}
use Rattle.fault.specs.First.{or_else}
use Rattle.fault.specs.declared.cause.Cause.{Cause}
use Rattle.fault.proofs.First.{none_both, unbroken}
use Rattle.feasible.specs.Places.{Everywhere, FirstFailing}
use Rattle.feasible.specs.First.{first_place, placed, unless}

pub first_found : (test : ℕ → Bool) (i n : ℕ) → first_place test i ≡ None → test i ≡ true → i < n → first_place test n ≡ Some i
unfolding first_place
first_found test i zero none t l = absurd (omega arith)
first_found test i (suc n) none t l =
    ⊎_elim
    (λ e. let P : ℕ → Type 0 = λ k. or_else (first_place test k) (cond (test k) (Some k) None) ≡ Some i in
    subst P e (ap (λ o. or_else o (cond (test i) (Some i) None)) none ∙ cond-true (test i) (Some i) None t))
    (λ ne. ap (λ o. or_else o (cond (test n) (Some n) None)) (first_found test i n none t (omega arith)))
    (cases_eq i n)

-- nowhere means that the test is false everywhere
pub first_nowhere : (test : ℕ → Bool) (n : ℕ) → ((i : ℕ) → i < n → test i ≡ false) → first_place test n ≡ None
unfolding first_place
first_nowhere test zero h = refl
first_nowhere test (suc n) h =
    ap (λ o. or_else o (cond (test n) (Some n) None)) (first_nowhere test n (λ i l. h i (omega arith))) ∙ cond-false (test n) (Some n) None (h n (omega arith))

pub nowhere_first : (test : ℕ → Bool) (n : ℕ) → first_place test n ≡ None → (i : ℕ) → i < n → test i ≡ false
unfolding first_place
nowhere_first test zero e i l = absurd (omega arith)
nowhere_first test (suc n) e i l =
    let both = none_both (first_place test n) (cond (test n) (Some n) None) e in
    ⊎_elim
    (λ s. ap test s ∙ (unbroken (test n) n None both.1).0)
    (λ ne. nowhere_first test n both.0 i (omega arith))
    (cases_eq i n)

-- what a search in order finds is the first place
first_is : (test : ℕ → Bool) (n : ℕ) (r : Option ℕ) → MatchOption r ((k : ℕ) → k < n → test k ≡ false) (λ i. (i < n) × (test i ≡ true) × ((k : ℕ) → k < i → test k ≡ false)) → r ≡ first_place test n
first_is test n None h = sym (first_nowhere test n h)
first_is test n (Some i) h = sym (first_found test i n (first_nowhere test i h.2) h.1 h.0)

-- over a range
pub first_in_range : (test : ℕ → Bool) (n : ℕ) (r : Option ℕ) → MatchOption r ((k : ℕ) → 0 ≤ k → k < n → test k ≡ false) (λ i. (0 ≤ i) × (i < n) × (test i ≡ true) × ((k : ℕ) → 0 ≤ k → k < i → test k ≡ false)) → r ≡ first_place test n
first_in_range test n None h = first_is test n None (λ k l. h k (omega arith) l)
first_in_range test n (Some i) h = first_is test n (Some i) (h.1, h.2, λ k l. h.3 k (omega arith) l)

-- over a list of numbers
pub first_in_list : (test : ℕ → Bool) (xs : List ℕ) (r : Option ℕ) → MatchOption r (AllWithin (λ x. test x ≡ false) xs 0 (length xs)) (λ i. (i < length xs) × HoldsAt (λ x. test x ≡ true) xs i × AllWithin (λ x. test x ≡ false) xs 0 i) → r ≡ first_place (λ k. test (get_or xs k 0)) (length xs)
first_in_list test xs None h = first_is (λ k. test (get_or xs k 0)) (length xs) None (λ k l. h k 0 (omega arith) l)
first_in_list test xs (Some i) h = first_is (λ k. test (get_or xs k 0)) (length xs) (Some i) (h.0, h.1 0, λ k l. h.2 k 0 (omega arith) l)

-- a check over places whose test is true where it fails
module _ (n : ℕ) (holds : ℕ → Type 0) (test : ℕ → Bool) (good : (i : ℕ) → holds i → test i ≡ false) (bad : (i : ℕ) → test i ≡ false → holds i) where
  pub first_failing : (i : ℕ) → FirstFailing n holds i → first_place test n ≡ Some i
  first_failing i f =
      first_found test i n (first_nowhere test i (λ j l. good j (f.before j l)))
      (⊎_elim (λ t. t) (λ e. absurd (f.fails (bad i e))) (cases_Bool (test i))) f.there

  pub nowhere_failing : Everywhere n holds → first_place test n ≡ None
  nowhere_failing h = first_nowhere test n (λ i l. good i (h i l))

  pub failing_nowhere : first_place test n ≡ None → Everywhere n holds
  failing_nowhere none i l = bad i (nowhere_first test n none i l)

pub placed_nowhere : (c : Cause) (place : Option ℕ) → placed c place ≡ None → place ≡ None
placed_nowhere c None e = refl
placed_nowhere c (Some i) e = let z : ◌≡◌ {A = ℕ} 0 1 = cc in absurd (omega arith)

pub unless_never : (good : Bool) (c : Cause) (place : ℕ) → unless good c place ≡ None → good ≡ true
unless_never true c place e = refl
unless_never false c place e = let z : ◌≡◌ {A = ℕ} 0 1 = cc in absurd (omega arith)
