use Rattle.std.proofs.Common.{◌≡◌, None, rules}
use Rattle.block.specs.Rules.{blocks_fault}
use Rattle.block.proofs.Kept.{rows_few, rows_kept}
use Rattle.block.proofs.rule.check_rows.Goals as goal

pub returns : goal.returns
returns c =
    let none : blocks_fault c.args.rows.now ≡ None = search rules in
    record { value = search rules; few = rows_few c.args.rows.now none; kept = rows_kept c.args.rows.now none }
