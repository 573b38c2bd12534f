-- An array that a closure fills place by place, where no call changes the closure.
use Rattle.std.proofs.Common.{◌≡◌, ℕ, zero, suc, ◌+◌, ◌<◌, ◌≤◌, List, get_or, refl, ◌∙◌, subst, inl, inr, arith}
use Rattle.std.specs.Array.{IsFromFnResultFrom, IsFromFnResult}
use Rattle.std.specs.Fn.{Called}
use Rattle.std.proofs.lemmas.Bool.{cases_eq}
use denote.Param.Members.{Mut}

module _ {F B : Type 0} (g : Mut F (ℕ × Unit {0}) B) (h : ℕ → B) (f : F) (calls : (i : ℕ) (x : B) (q : F) → Called g f (i, tt) x q → (q ≡ f) × (x ≡ h i)) where
  from : (ys : List B) (i n k : ℕ) (d : B) (p : F) → p ≡ f → IsFromFnResultFrom g p ys i n → i ≤ k → k < i + n → get_or ys k d ≡ h k
  from ys i zero k d p e r low high = absurd (omega arith)
  from ys i (suc n) k d p e (q, x, at, call, rest) low high =
      let met = calls i x q (subst (λ s. Called g s (i, tt) x q) e call) in
      elim (cases_eq i k) [
        | inl same ↦ subst (λ j. get_or ys j d ≡ h j) same (at.1 d ∙ met.1)
        | inr other ↦ from ys (i + 1) n k d q met.0 rest (omega arith) (omega arith)
      ]

  -- each place has what the closure gives there
  pub filled : (ys : List B) (n k : ℕ) (d : B) → IsFromFnResult g f ys n → k < n → get_or ys k d ≡ h k
  filled ys n k d r l = from ys 0 n k d f refl r.each (omega arith) (omega arith)
