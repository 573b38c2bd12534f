-- A list that has a function's value at every place is the list of those.
use Rattle.std.proofs.Common.{◌≡◌, ℕ, zero, suc, ◌+◌, ◌<◌, List, length, get_or, sym, refl, ap, ◌∙◌, arith}
use Rattle.std.proofs.lemmas.List.{same_lists}
use Rattle.measure.specs.Listed.{listed}

module _ {X : Type 0} (f : ℕ → X) where
  long : (i n : ℕ) → length (listed i n f) ≡ n
  unfolding listed
  long i zero = refl
  long i (suc n) = ap suc (long (suc i) n)

  there : (i n k : ℕ) (d : X) → k < n → get_or (listed i n f) k d ≡ f (i + k)
  unfolding listed
  there i zero k d h = absurd (omega arith)
  there i (suc n) zero d h = ap f (omega arith)
  there i (suc n) (suc k) d h = there (suc i) n k d (omega arith) ∙ ap f (omega arith)

  pub is_listed : (xs : List X) (n : ℕ) → length xs ≡ n → ((k : ℕ) (d : X) → k < n → get_or xs k d ≡ f k) → xs ≡ listed 0 n f
  is_listed xs n e h =
      same_lists xs (listed 0 n f) (e ∙ sym (long 0 n))
      (λ k d l. h k d (omega (arith, e)) ∙ sym (there 0 n k d (omega (arith, e)) ∙ ap f (omega arith)))
