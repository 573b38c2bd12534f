use Rattle.std.proofs.Common.{ℕ, ◌+◌, ◌*◌, get_or, ℤ, pos, rules}
use Rattle.market.proofs.Filled.{filled}
use Rattle.measure.proofs.Listed.{is_listed}
use Rattle.measure.proofs.lines.line_at.Goals as goal

pub returns : goal.returns
returns c =
    let made = c.from_fn.ensures.items in
    let share : ℕ → ℤ = λ b. get_or c.args.shares.now (64 * c.args.line + b) (pos 0) in
    is_listed share c.from_fn.result 64 made.long (λ k d h. filled _ share _ (λ i x q r. search rules) _ 64 k d made h)
