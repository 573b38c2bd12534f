-- Rows without a fault are few and keep every rule.
use Rattle.std.proofs.Common.{◌≡◌, ℕ, ◌<◌, ◌≤◌, Bool, true, false, cond, List, length, get_or, Some, None, refl, arith}
use Rattle.std.proofs.lemmas.Bool.{leb-true}
use Rattle.fault.specs.declared.cause.Fault.{Fault}
use Rattle.fault.proofs.First.{none_both}
use Rattle.fault.proofs.Rules.{each_keeps}
use Rattle.block.specs.Rules.{Kept, broken, cause_of, row_count_fault, fault_from, blocks_fault}
use Rattle.block.specs.declared.row.BlockRow.{BlockRow}
use Rattle.block.specs.declared.rule.Rule.{Rule}
use Rattle.block.specs.declared.rule.Rule.TheVariants.{Bus, Count, Sizes, Prices}

counted : (b : Bool) (f : Fault) → cond b None (Some f) ≡ None → b ≡ true
counted true f e = refl
counted false f e = let z : ◌≡◌ {A = ℕ} 0 1 = cc in absurd (omega arith)

keeps : (k : Rule) (i : ℕ) (rows : List BlockRow) → fault_from k i rows ≡ None → (j : ℕ) (d : BlockRow) → j < length rows → broken k (get_or rows j d) ≡ false
keeps k i rows e = each_keeps (broken k) (cause_of k) i rows e

pub rows_few : (rows : List BlockRow) → blocks_fault rows ≡ None → length rows ≤ 64
rows_few rows none = leb-true _ _ (counted _ _ (none_both (row_count_fault rows) _ none).0)

pub rows_kept : (rows : List BlockRow) → blocks_fault rows ≡ None → (i : ℕ) (d : BlockRow) → i < length rows → Kept (get_or rows i d)
rows_kept rows none i d h =
    let bus = none_both _ _ (none_both (row_count_fault rows) _ none).1 in
    let count = none_both _ _ bus.1 in
    let sizes = none_both _ _ count.1 in
    let prices = none_both _ None sizes.1 in
    elim [
      | Bus ↦ keeps Bus 0 rows bus.0 i d h
      | Count ↦ keeps Count 0 rows count.0 i d h
      | Sizes ↦ keeps Sizes 0 rows sizes.0 i d h
      | Prices ↦ keeps Prices 0 rows prices.0 i d h
    ]
