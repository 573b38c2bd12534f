-- Rows without a fault keep the rule.
use Rattle.std.proofs.Common.{◌≡◌, ℕ, zero, suc, ◌<◌, Bool, false, List, [], ◌∷◌, length, get_or, None, arith}
use Rattle.fault.specs.declared.cause.Cause.{Cause}
use Rattle.fault.specs.Rules.{first_broken}
use Rattle.fault.proofs.First.{unbroken}

pub each_keeps : {R : Type 0} (broken : R → Bool) (c : Cause) (i : ℕ) (rows : List R) → first_broken broken c i rows ≡ None → (j : ℕ) (d : R) → j < length rows → broken (get_or rows j d) ≡ false
unfolding first_broken
each_keeps broken c i [] e j d h = absurd (omega arith)
each_keeps broken c i (r ∷ rs) e zero d h = (unbroken _ _ _ e).0
each_keeps broken c i (r ∷ rs) e (suc j) d h = each_keeps broken c (suc i) rs (unbroken _ _ _ e).1 j d (omega arith)
