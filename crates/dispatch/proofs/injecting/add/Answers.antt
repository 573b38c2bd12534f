use Rattle.std.proofs.Common.{◌≡◌, true, ◌+ℤ◌, rules}
use Rattle.std.proofs.lemmas.Int.{ints}
use Rattle.network.specs.Sheet.{sheet_of, holds}
use Rattle.dispatch.proofs.injecting.add.Goals as goal

pub returns : goal.returns
returns c = λ b.
    let held : holds c.args.bus (sheet_of c.args.sheet.now c.args.bus +ℤ c.args.amount) ≡ true = search (rules, ints) in
    search rules
