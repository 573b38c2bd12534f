use Rattle.std.proofs.Common.{◌≡◌, None, rules}
use Rattle.rows.specs.Rules.{rows_fault}
use Rattle.rows.proofs.Kept.{rows_lawful}
use Rattle.rows.proofs.rule.check_rows.Goals as goal

pub returns : goal.returns
returns c =
    let none : rows_fault c.args.cents c.args.rows.now ≡ None = search rules in
    record { value = search rules; few = search rules; lawful = rows_lawful c.args.cents c.args.rows.now none }
