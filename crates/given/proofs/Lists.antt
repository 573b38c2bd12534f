-- What a table has of a list that comes piece after piece.
use Rattle.std.proofs.Common.{◌≡◌, ℕ, ◌≤◌, List, ◌++◌, length, take, ap, ◌∙◌, inl, inr, arith, sym}
use Rattle.std.proofs.lemmas.List.{append_assoc, length-take-le, take_all, take-append-le, take-take}
use Rattle.std.proofs.lemmas.Bool.{cases_lt}

-- nothing has room past a full list
pub take_full : {X : Type 0} (n : ℕ) (xs ys : List X) → n ≤ length xs → take n (xs ++ ys) ≡ take n xs
take_full n xs ys h = take-append-le n xs ys h

-- what is cut on the way would be cut at the end
pub take_more_of : {X : Type 0} (n : ℕ) (xs ys : List X) → take n (take n xs ++ ys) ≡ take n (xs ++ ys)
take_more_of n xs ys =
    elim (cases_lt (length xs) n) [
      | inl h ↦ ap (λ zs. take n (zs ++ ys)) (take_all n xs (omega arith))
      | inr h ↦
          take_full n (take n xs) ys (omega (arith, length-take-le n xs h))
          ∙ take-take n n xs (omega arith)
          ∙ sym (take_full n xs ys h)
    ]

-- what is put after a cut list is cut after the whole of it
pub taken_then : {X : Type 0} {mid end : List X} (n : ℕ) (xs ys : List X) → mid ≡ take n xs → end ≡ take n (mid ++ ys) → end ≡ take n (xs ++ ys)
taken_then n xs ys p q = q ∙ ap (λ zs. take n (zs ++ ys)) p ∙ take_more_of n xs ys

-- two pieces put one after the other are one piece
pub taken_both : {X : Type 0} {mid end : List X} (n : ℕ) (was xs ys : List X) → mid ≡ take n (was ++ xs) → end ≡ take n (mid ++ ys) → end ≡ take n (was ++ (xs ++ ys))
taken_both n was xs ys p q = taken_then n (was ++ xs) ys p q ∙ ap (take n) (append_assoc was xs ys)
