-- Rows without a fault keep every rule.
use Rattle.std.proofs.Common.{◌≡◌, ℕ, ◌<◌, false, List, length, get_or, None}
use Rattle.fault.proofs.First.{none_both}
use Rattle.fault.proofs.Rules.{each_keeps}
use Rattle.rows.specs.Rules.{Lawful, broken, cause_of, cap_fault, row_count_fault, fault_from, rows_fault}
use Rattle.rows.specs.declared.row.Row.{Row}
use Rattle.rows.specs.declared.rule.Rule.{Rule}
use Rattle.rows.specs.declared.rule.Rule.TheVariants.{Letter, Bus, Limits, Count, Levels, Prices, Reading}

keeps : (w : ℕ) (k : Rule) (i : ℕ) (rows : List Row) → fault_from w k i rows ≡ None → (j : ℕ) (d : Row) → j < length rows → broken w k (get_or rows j d) ≡ false
keeps w k i rows e = each_keeps (broken w k) (cause_of k) i rows e

pub rows_lawful : (w : ℕ) (rows : List Row) → rows_fault w rows ≡ None → (i : ℕ) (d : Row) → i < length rows → Lawful w (get_or rows i d)
rows_lawful w rows none i d h =
    let letter = none_both _ _ (none_both (row_count_fault rows) _ (none_both (cap_fault w) _ none).1).1 in
    let bus = none_both _ _ letter.1 in
    let limits = none_both _ _ bus.1 in
    let count = none_both _ _ limits.1 in
    let levels = none_both _ _ count.1 in
    let prices = none_both _ _ levels.1 in
    let reading = none_both _ None prices.1 in
    elim [
      | Letter ↦ keeps w Letter 0 rows letter.0 i d h
      | Bus ↦ keeps w Bus 0 rows bus.0 i d h
      | Limits ↦ keeps w Limits 0 rows limits.0 i d h
      | Count ↦ keeps w Count 0 rows count.0 i d h
      | Levels ↦ keeps w Levels 0 rows levels.0 i d h
      | Prices ↦ keeps w Prices 0 rows prices.0 i d h
      | Reading ↦ keeps w Reading 0 rows reading.0 i d h
    ]
